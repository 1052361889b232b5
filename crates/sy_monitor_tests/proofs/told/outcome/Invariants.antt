use Rattle.sy_monitor_tests.proofs.told.outcome.Given as goal

-- the ledger of the counter is the one of its blank
abbrev pub ghosts-counted : goal.ghosts-counted
ghosts-counted a = record { name = a.blank.name; parts = a.blank.parts }
