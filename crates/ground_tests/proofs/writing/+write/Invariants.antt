use Rattle.ground_tests.proofs.writing.+write.Given as goal

-- how deep rules may stand within rules
abbrev pub decreases-write : goal.decreases-write
decreases-write l = l.depth
