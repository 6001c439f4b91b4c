use Rattle.conf_parse.proofs.Items.{alone_error, alone_part, item_none}
use Rattle.conf_parse.proofs.StandingItems.{item_class, item_enum, item_goal, item_var, item_where}
use Rattle.conf_parse.proofs.item.item.Goals as goal

pub returns-in-Ok-clause-places : goal.returns-in-Ok-clause-places
returns-in-Ok-clause-places c = item_enum c.in-Ok.decl c.args.tokens.now c.in-Ok.rest.now c.in-Ok.ensures.places

pub returns-in-Ok-abstract_decl-clause-places : goal.returns-in-Ok-abstract_decl-clause-places
returns-in-Ok-abstract_decl-clause-places c = item_class c.in-Ok-abstract_decl.decl c.args.tokens.now c.in-Ok-abstract_decl.rest.now c.in-Ok-abstract_decl.ensures.places

pub returns-in-Ok-class_decl-clause-places : goal.returns-in-Ok-class_decl-clause-places
returns-in-Ok-class_decl-clause-places c = item_class c.in-Ok-class_decl.decl c.args.tokens.now c.in-Ok-class_decl.rest.now c.in-Ok-class_decl.ensures.places

pub returns-in-Ok-var_decl-clause-places : goal.returns-in-Ok-var_decl-clause-places
returns-in-Ok-var_decl-clause-places c = item_var c.in-Ok-var_decl.decl c.args.tokens.now c.in-Ok-var_decl.rest.now c.in-Ok-var_decl.ensures.places

pub returns-in-Ok-where_decl-clause-places : goal.returns-in-Ok-where_decl-clause-places
returns-in-Ok-where_decl-clause-places c = item_where c.in-Ok-where_decl.decl c.args.tokens.now c.in-Ok-where_decl.rest.now c.in-Ok-where_decl.ensures.places

pub returns-in-Ok-goal_decl-clause-places : goal.returns-in-Ok-goal_decl-clause-places
returns-in-Ok-goal_decl-clause-places c = item_goal c.in-Ok-goal_decl.decl c.args.tokens.now c.in-Ok-goal_decl.rest.now c.in-Ok-goal_decl.ensures.places

pub returns-in-Ok-goal_decl-2-clause-places : goal.returns-in-Ok-goal_decl-2-clause-places
returns-in-Ok-goal_decl-2-clause-places c = item_goal c.in-Ok-goal_decl-2.decl c.args.tokens.now c.in-Ok-goal_decl-2.rest.now c.in-Ok-goal_decl-2.ensures.places

pub returns-in-Ok-var_decl-clause-read : goal.returns-in-Ok-var_decl-clause-read
returns-in-Ok-var_decl-clause-read c = alone_part _ c.args.tokens.now c.in-Ok-var_decl.rest.now c.in-Ok-var_decl.ensures.read

pub returns-in-Err-var_decl-clause-read : goal.returns-in-Err-var_decl-clause-read
returns-in-Err-var_decl-clause-read c = alone_error c.args.tokens.now c.in-Err-var_decl.e c.in-Err-var_decl.ensures.read

pub returns-in-Ok-where_decl-clause-read : goal.returns-in-Ok-where_decl-clause-read
returns-in-Ok-where_decl-clause-read c = alone_part _ c.args.tokens.now c.in-Ok-where_decl.rest.now c.in-Ok-where_decl.ensures.read

pub returns-in-Err-where_decl-clause-read : goal.returns-in-Err-where_decl-clause-read
returns-in-Err-where_decl-clause-read c = alone_error c.args.tokens.now c.in-Err-where_decl.e c.in-Err-where_decl.ensures.read

pub returns-clause-read : goal.returns-clause-read
returns-clause-read c = item_none c.args.tokens.now c.requires c.in_default.ensures c.in_default-after_key.ensures c.in_default-after_key-2.ensures c.in_default-after_key-3.ensures c.in_default-after_key-4.ensures c.in_default-after_key-5.ensures c.in_default-after_key-6.ensures
