-- Requests told apart. What a reader believes after this file: nothing that `run` says.
use Rattle.std.specs.Prelude.{Bool, true, false}
use Rattle.conf_request.specs.declared.request.Request.{Request}
use Rattle.conf_request.specs.declared.request.Request.TheVariants.{Solve, Reconfigure, Check, Verify, Gen, Session, Core}

-- the request is a session
abbrev pub is_session : Request → Bool
is_session (Solve model budget log order) = false
is_session (Reconfigure model former failed budget log order) = false
is_session (Check model log former failed) = false
is_session (Verify model config) = false
is_session (Gen n) = false
is_session (Session model former events budget order) = true
is_session (Core model budget order) = false
