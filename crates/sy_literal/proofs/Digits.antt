-- A number only grows by further digits, so one that is above 10^15 before its last digit is out of range.
use Rattle.std.proofs.Common.{◌≡◌, ℕ, ◌+◌, ◌-◌, ◌*◌, ◌^◌, ◌<◌, ◌≤◌, false, nat_le, List, [], ◌∷◌, Option, Some, None, if◌then◌else◌, refl, sym, ap, arith}
use Rattle.std.specs.List.{fold}
use Rattle.std.proofs.lemmas.Bool.Decides.{nat_tests}
use Rattle.sy_literal.specs.Values.{number_in_range, number_value, with_digit}

grows : (number : ℕ) (digits : List ℕ) → number ≤ fold with_digit number digits
grows number [] = omega arith
grows number (digit ∷ digits) = omega (arith, grows (with_digit number digit) digits)

pub out_of_range : (digits : List ℕ) (number : ℕ) (rest : List ℕ) → fold with_digit number rest ≡ number_value digits
    → 10 ^ 15 < number → None ≡ number_in_range digits
out_of_range digits number rest same great =
    let above : nat_le (number_value digits) (10 ^ 15) ≡ false = grind (arith, nat_tests, grows number rest) in
    sym (ap (λ b. if b then Some (number_value digits) else None) above)
