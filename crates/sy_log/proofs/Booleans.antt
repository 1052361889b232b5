-- Facts on truth values.
use Rattle.std.proofs.Common.{◌≡◌, Bool, true, false, not, ◌&&◌, ◌||◌, refl}

pub both : (a b : Bool) → a ≡ true → b ≡ true → (a && b) ≡ true
both true true h h' = refl
both true false h h' = absurd cc
both false b h h' = absurd cc

pub left : (a b : Bool) → (a && b) ≡ true → a ≡ true
left true b h = refl
left false b h = absurd cc

pub right : (a b : Bool) → (a && b) ≡ true → b ≡ true
right true b h = h
right false b h = absurd cc

pub either : (a b : Bool) → b ≡ true → (a || b) ≡ true
either true b h = refl
either false b h = h

pub neither : (a b : Bool) → a ≡ false → b ≡ false → (a || b) ≡ false
neither false false h h' = refl
neither false true h h' = absurd cc
neither true b h h' = absurd cc

pub untrue : (a : Bool) → not a ≡ true → a ≡ false
untrue false h = refl
untrue true h = absurd cc
