-- Functions of a number that agree at 0 and from 1 on agree.
use Rattle.std.proofs.Common.{◌≡◌, ℕ, zero, suc, List}

pub and_later : (f g : ℕ → List ℕ) → f 0 ≡ g 0 → ((k : ℕ) → f (suc k) ≡ g (suc k)) → (k : ℕ) → f k ≡ g k
and_later f g first later zero = first
and_later f g first later (suc k) = later k
