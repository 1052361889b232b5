use Rattle.sy_run_tests.proofs.case.outcome.Given as goal

-- the ledger of the counter is the one of its blank
abbrev pub ghosts-counted : goal.ghosts-counted
ghosts-counted a = record { name = a.blank.name; parts = a.blank.parts }
