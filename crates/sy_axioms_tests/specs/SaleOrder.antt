-- The nodes of the meat sale, what each needs, and the order of evaluation, worked out by hand from the rules. The positions are
-- 0 oDeliver, 1 oPay, 2 oLate, 3 oSecret, 4 pHold, 5 pGo, 6 pEnd.
use Rattle.std.specs.Prelude.{ℕ, List, [], ◌∷◌}
use Rattle.sy_core.specs.Prerequisites.{Node, Exert, Trig, Act, End, Contract}

-- the nodes, by number: 0 to 11 are those of the obligations, 12 to 23 those of the powers
abbrev pub sale_nodes : List Node
sale_nodes =
    Trig 0 ∷ Act 0 ∷ End 0
    ∷ Trig 1 ∷ Act 1 ∷ End 1
    ∷ Trig 2 ∷ Act 2 ∷ End 2
    ∷ Trig 3 ∷ Act 3 ∷ End 3
    ∷ Exert 4 ∷ Trig 4 ∷ Act 4 ∷ End 4
    ∷ Exert 5 ∷ Trig 5 ∷ Act 5 ∷ End 5
    ∷ Exert 6 ∷ Trig 6 ∷ Act 6 ∷ End 6
    ∷ Contract
    ∷ []

-- what each node needs, by number. pHold (12) and pGo (16) act on oPay, and pEnd (20) on the contract. oLate's trigger and duty name the
-- violation of oPay (5), and pGo's trigger its suspension (4). oSecret survives the contract. oLate is the remedy of oPay
abbrev pub sale_needs : List (List ℕ)
sale_needs =
    []
    ∷ (0 ∷ [])
    ∷ (0 ∷ 1 ∷ 20 ∷ [])
    ∷ []
    ∷ (3 ∷ 12 ∷ 16 ∷ [])
    ∷ (3 ∷ 4 ∷ 20 ∷ [])
    ∷ (5 ∷ [])
    ∷ (6 ∷ [])
    ∷ (6 ∷ 7 ∷ 5 ∷ 20 ∷ [])
    ∷ []
    ∷ (9 ∷ [])
    ∷ (9 ∷ 10 ∷ [])
    ∷ []
    ∷ []
    ∷ (13 ∷ 12 ∷ [])
    ∷ (13 ∷ 14 ∷ 20 ∷ 12 ∷ [])
    ∷ []
    ∷ (4 ∷ [])
    ∷ (17 ∷ 16 ∷ [])
    ∷ (17 ∷ 18 ∷ 20 ∷ 16 ∷ [])
    ∷ []
    ∷ []
    ∷ (21 ∷ 20 ∷ [])
    ∷ (21 ∷ 22 ∷ 20 ∷ 20 ∷ [])
    ∷ (20 ∷ 0 ∷ 1 ∷ 2 ∷ 3 ∷ 4 ∷ 5 ∷ 6 ∷ 7 ∷ 8 ∷ 6 ∷ 7 ∷ 8 ∷ [])
    ∷ []

-- the order of evaluation
abbrev pub sale_order : List Node
sale_order =
    Trig 0 ∷ Act 0 ∷ Trig 1 ∷ Trig 3 ∷ Act 3 ∷ End 3
    ∷ Exert 4 ∷ Trig 4 ∷ Act 4 ∷ Exert 5 ∷ Act 1 ∷ Trig 5 ∷ Act 5
    ∷ Exert 6 ∷ End 0 ∷ End 1 ∷ Trig 2 ∷ Act 2 ∷ End 2 ∷ End 4 ∷ End 5
    ∷ Trig 6 ∷ Act 6 ∷ End 6
    ∷ Contract
    ∷ []
