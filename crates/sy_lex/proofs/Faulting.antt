-- Bytes that go wrong behind the first n: they do whatever comes behind the next one, and cutting finds it.
use Rattle.std.proofs.Common.{◌≡◌, inr, ℕ, zero, suc, ◌+◌, ◌-◌, ◌<◌, ◌≤◌, true, List, [], ◌∷◌, ◌++◌, length, get_or, take, drop, Err, refl, sym, ap, subst, ◌∙◌, arith}
use Rattle.std.proofs.lemmas.List.{drop-append-le, get_or-drop, get_or-take, get_or_append_left, length-append, length-drop, length-take-le}
use Rattle.std.proofs.Math.Seq.{take-add}
use Rattle.sy_base.specs.declared.refusal.Place.{Place}
use Rattle.sy_lex.specs.declared.spot.Spot.{Spot}
use Rattle.sy_lex.specs.declared.step.Step.{Step}
use Rattle.sy_lex.specs.declared.step.Step.TheVariants as S
use Rattle.sy_lex.specs.declared.token.TokenKind.{TokenKind}
use Rattle.sy_lex.specs.Tokens.{IsFirst, next_spot, spot_after, token_at}
use Rattle.sy_lex.specs.Machine.Cutting.{Cut, cut_at, step_at, with_first}
use Rattle.sy_lex.proofs.BadEnds.{bad_stays}
use Rattle.sy_lex.proofs.BadSteps.{BadStep, bad_step, bad_within, no_short_fault}
use Rattle.sy_lex.proofs.Dates.{date_bytes, date_shape, is_date_byte}
use Rattle.sy_lex.proofs.Firsts.{first_step}
use Rattle.sy_lex.proofs.Stands.{Stands, step_stands}
use Rattle.sy_lex.proofs.Staying.{NoDate, skip_stays, token_stays}
use Rattle.sy_lex.proofs.Steps.{one_step}
use Rattle.sy_lex.proofs.Whole.{first_moves, with_first_err}

-- the bytes go wrong behind the first n, of which the last m stand behind the last token or comment
pub data Faults : List ℕ → ℕ → ℕ → Type 0 where
  bad : (b : ℕ) (bytes : List ℕ) (m : ℕ) → BadStep b bytes m → step_at (b ∷ bytes) ≡ S.Bad m → Faults (b ∷ bytes) m m
  token : (b : ℕ) (bytes : List ℕ) (kind : TokenKind) (k n m : ℕ) → step_at (b ∷ bytes) ≡ S.Token kind k → IsFirst kind k (b ∷ bytes)
      → Faults (drop k (b ∷ bytes)) n m → Faults (b ∷ bytes) (k + n) m
  skip : (b : ℕ) (bytes : List ℕ) (k n m : ℕ) → step_at (b ∷ bytes) ≡ S.Skip k → 0 < k → k ≤ length (b ∷ bytes)
      → Faults (drop k (b ∷ bytes)) n m → Faults (b ∷ bytes) (k + n) m

-- ---- where cutting fails, the bytes go wrong

spot_append : (at : Spot) (xs ys : List ℕ) → spot_after at (xs ++ ys) ≡ spot_after (spot_after at xs) ys
unfolding spot_after
spot_append at [] ys = refl
spot_append at (x ∷ xs) ys = spot_append (next_spot at x) xs ys

-- the place behind the first n bytes
abbrev pub PlaceAt : Spot → List ℕ → ℕ → Place
PlaceAt at bytes n = (spot_after at (take n bytes)).place

place_later : (at : Spot) (bytes : List ℕ) (k n : ℕ) → PlaceAt (spot_after at (take k bytes)) (drop k bytes) n ≡ PlaceAt at bytes (k + n)
place_later at bytes k n = ap (λ (s : Spot). s.place) (sym (ap (spot_after at) (take-add k n bytes) ∙ spot_append at (take k bytes) (take n (drop k bytes))))

abbrev pub Goes : Spot → List ℕ → Place → Type 0
Goes at bytes place = (n : ℕ) × (m : ℕ) × Faults bytes n m × (place ≡ PlaceAt at bytes n)

abbrev failed : Place → Cut
failed place = Err place

bad_place : (one other : Place) → failed one ≡ failed other → other ≡ one
bad_place one other e = cc

by_step : (s : Step) (at : Spot) (b : ℕ) (bytes : List ℕ) (place : Place) → s ≡ step_at (b ∷ bytes) → Stands (b ∷ bytes) s
    → ((k : ℕ) → 0 < k → cut_at 0 (spot_after at (take k (b ∷ bytes))) (drop k (b ∷ bytes)) ≡ Err place → Goes (spot_after at (take k (b ∷ bytes))) (drop k (b ∷ bytes)) place)
    → cut_at 0 at (b ∷ bytes) ≡ Err place → Goes at (b ∷ bytes) place
by_step (S.Token kind k) at b bytes place is first later cut =
    let moves = first_moves kind k (b ∷ bytes) first in
    let one = one_step (S.Token kind k) at (b ∷ bytes) (omega arith) is moves in
    let rest = later k moves.0 (with_first_err (token_at kind k at) _ place (sym one ∙ cut)) in
    (k + rest.0, rest.1, token b bytes kind k rest.0 rest.1 (sym is) first rest.2, rest.3 ∙ place_later at (b ∷ bytes) k rest.0)
by_step (S.Skip k) at b bytes place is stands later cut =
    let one = one_step (S.Skip k) at (b ∷ bytes) (omega arith) is (stands.0, stands.1) in
    let rest = later k stands.0 (sym one ∙ cut) in
    (k + rest.0, rest.1, skip b bytes k rest.0 rest.1 (sym is) stands.0 stands.1 rest.2, rest.3 ∙ place_later at (b ∷ bytes) k rest.0)
by_step (S.Bad m) at b bytes place is stands later cut =
    let wrong = bad_step b m bytes (sym is) in
    let one = one_step (S.Bad m) at (b ∷ bytes) (omega arith) is (bad_within b m bytes wrong) in
    (m, m, bad b bytes m wrong (sym is), bad_place (PlaceAt at (b ∷ bytes) m) place (sym one ∙ cut))

pub goes : (limit : ℕ) (at : Spot) (bytes : List ℕ) (place : Place) → length bytes ≤ limit → cut_at 0 at bytes ≡ Err place → Goes at bytes place
unfolding cut_at
goes limit at [] place within cut = absurd cc
goes zero at (b ∷ bytes) place within cut = absurd (omega arith)
goes (suc limit) at (b ∷ bytes) place within cut =
    by_step (step_at (b ∷ bytes)) at b bytes place refl (step_stands b bytes)
    (λ k some later. goes limit _ (drop k (b ∷ bytes)) place (omega (arith, length-drop k (b ∷ bytes))) later) cut

-- ---- and where they go wrong, it fails

pub faults_cut : (at : Spot) (bytes : List ℕ) (n m : ℕ) → Faults bytes n m → (place : Place) × (cut_at 0 at bytes ≡ Err place)
faults_cut at bytes n m (bad b more _ wrong is) = (PlaceAt at (b ∷ more) m, one_step (S.Bad m) at (b ∷ more) (omega arith) (sym is) (bad_within b m more wrong))
faults_cut at bytes n m (token b more kind k n' _ is first rest) =
    let one = one_step (S.Token kind k) at (b ∷ more) (omega arith) (sym is) (first_moves kind k (b ∷ more) first) in
    let later = faults_cut (spot_after at (take k (b ∷ more))) (drop k (b ∷ more)) n' m rest in
    (later.0, one ∙ ap (with_first (token_at kind k at)) later.1)
faults_cut at bytes n m (skip b more k n' _ is some within rest) =
    let one = one_step (S.Skip k) at (b ∷ more) (omega arith) (sym is) (some, within) in
    let later = faults_cut (spot_after at (take k (b ∷ more))) (drop k (b ∷ more)) n' m rest in
    (later.0, one ∙ later.1)

-- ---- how far the bytes are read

pub faults_within : (bytes : List ℕ) (n m : ℕ) → Faults bytes n m → (n ≤ length bytes) × (m ≤ n)
faults_within bytes n m (bad b more _ wrong is) = (bad_within b m more wrong, omega arith)
faults_within bytes n m (token b more kind k n' _ is first rest) =
    let later = faults_within (drop k (b ∷ more)) n' m rest in
    let within = (first_moves kind k (b ∷ more) first).1 in
    (omega (arith, length-drop k (b ∷ more), later.0, within), omega (arith, later.1))
faults_within bytes n m (skip b more k n' _ is some within rest) =
    let later = faults_within (drop k (b ∷ more)) n' m rest in
    (omega (arith, length-drop k (b ∷ more), later.0), omega (arith, later.1))

-- the byte with which the last step begins, if it is soon at its fault, is none that dates have
dates_have_none : (bytes : List ℕ) (n m : ℕ) → Faults bytes n m → m < 16 → is_date_byte (get_or bytes (n - m) 0) ≡ true → ⊥
dates_have_none bytes n m (bad b more _ wrong is) short date =
    let first : m - m ≡ 0 = omega arith in
    no_short_fault b m more wrong short (rw first at date)
dates_have_none bytes n m (token b more kind k n' _ is first rest) short date =
    let under = (faults_within (drop k (b ∷ more)) n' m rest).1 in
    let index : k + (n' - m) ≡ k + n' - m = omega arith in
    dates_have_none (drop k (b ∷ more)) n' m rest short (ap is_date_byte (get_or-drop k (b ∷ more) (n' - m) 0 ∙ ap (λ (j : ℕ). get_or (b ∷ more) j 0) index) ∙ date)
dates_have_none bytes n m (skip b more k n' _ is some within rest) short date =
    let under = (faults_within (drop k (b ∷ more)) n' m rest).1 in
    let index : k + (n' - m) ≡ k + n' - m = omega arith in
    dates_have_none (drop k (b ∷ more)) n' m rest short (ap is_date_byte (get_or-drop k (b ∷ more) (n' - m) 0 ∙ ap (λ (j : ℕ). get_or (b ∷ more) j 0) index) ∙ date)

-- so no date goes past a front that holds that byte
pub no_date : (front rest other : List ℕ) (n m : ℕ) → Faults (front ++ rest) n m → n ≤ length front → n - m < length front → NoDate front other
no_date front rest other n m faults under holds size past within date =
    let shape = date_shape (take size (front ++ other)) date in
    let long : length (take size (front ++ other)) ≡ size = length-take-le size (front ++ other) within in
    let short : size ≤ 16 = grind (arith, long, shape.size) in
    let most = (faults_within (front ++ rest) n m faults).1 in
    let byte = date_bytes (take size (front ++ other)) date (n - m) (omega (arith, long)) in
    let same : get_or (take size (front ++ other)) (n - m) 0 ≡ get_or (front ++ rest) (n - m) 0 =
    get_or-take size (front ++ other) (n - m) 0 (omega arith) ∙ (get_or_append_left front other 0 (n - m) holds ∙ sym (get_or_append_left front rest 0 (n - m) holds)) in
    dates_have_none (front ++ rest) n m faults (omega arith) (ap is_date_byte (sym same) ∙ byte)

-- ---- they go wrong so whatever comes behind the byte at which they do

same_rest : (a b : ℕ) (xs ys : List ℕ) → a ∷ xs ≡ b ∷ ys → (a ≡ b) × (xs ≡ ys)
same_rest a b xs ys e = (cc, cc)

-- what is dropped from the front with other bytes behind it
pub dropped : (k : ℕ) (front other : List ℕ) → k ≤ length front → drop k (front ++ other) ≡ drop k front ++ other
dropped k front other within = drop-append-le k front other within

pub still_wrong : (bytes : List ℕ) (n m : ℕ) → Faults bytes n m → (front rest other : List ℕ) → bytes ≡ front ++ rest → length front ≡ n + 1 → Faults (front ++ other) n m
still_wrong bytes n m (bad b more _ wrong is) [] rest other split size = absurd (omega arith)
still_wrong bytes n m (bad b more _ wrong is) (a ∷ front) rest other split size =
    let parts = same_rest b a more (front ++ rest) split in
    let step = bad_stays b m more front rest other wrong parts.1 (omega arith) in
    let there = bad b (front ++ other) m (bad_step b m (front ++ other) step) step in
    subst (λ (x : ℕ). Faults (x ∷ front ++ other) m m) parts.0 there
still_wrong bytes n m (token b more kind k n' _ is first later) [] rest other split size = absurd (omega arith)
still_wrong bytes n m (token b more kind k n' _ is first later) (a ∷ front) rest other split size =
    let parts = same_rest b a more (front ++ rest) split in
    let all = token b more kind k n' m is first later in
    let under = faults_within (b ∷ more) (k + n') m all in
    let here : Faults ((b ∷ front) ++ rest) (k + n') m = subst (λ (xs : List ℕ). Faults (b ∷ xs) (k + n') m) parts.1 all in
    let first' : IsFirst kind k ((b ∷ front) ++ rest) = subst (λ (xs : List ℕ). IsFirst kind k (b ∷ xs)) parts.1 first in
    let some = (first_moves kind k (b ∷ more) first).0 in
    let over = (faults_within (drop k (b ∷ more)) n' m later).1 in
    let none = no_date (b ∷ front) rest other (k + n') m here (omega arith) (omega arith) in
    let stays = token_stays (b ∷ front) rest other kind k first' (omega arith) (inr (omega arith, none)) in
    let split' : drop k (b ∷ more) ≡ drop k (b ∷ front) ++ rest = ap (λ (xs : List ℕ). drop k (b ∷ xs)) parts.1 ∙ dropped k (b ∷ front) rest (omega arith) in
    let rec = still_wrong (drop k (b ∷ more)) n' m later (drop k (b ∷ front)) rest other split' (omega (arith, length-drop k (b ∷ front))) in
    let rec' = subst (λ (xs : List ℕ). Faults xs n' m) (sym (dropped k (b ∷ front) other (omega arith))) rec in
    subst (λ (x : ℕ). Faults (x ∷ front ++ other) (k + n') m) parts.0 (token b (front ++ other) kind k n' m (first_step kind k b (front ++ other) stays) stays rec')
still_wrong bytes n m (skip b more k n' _ is some within later) [] rest other split size = absurd (omega arith)
still_wrong bytes n m (skip b more k n' _ is some within later) (a ∷ front) rest other split size =
    let parts = same_rest b a more (front ++ rest) split in
    let is' : step_at (b ∷ front ++ rest) ≡ S.Skip k = subst (λ (xs : List ℕ). step_at (b ∷ xs) ≡ S.Skip k) parts.1 is in
    let stays = skip_stays b k front rest other is' (omega arith) (inr (omega arith)) in
    let split' : drop k (b ∷ more) ≡ drop k (b ∷ front) ++ rest = ap (λ (xs : List ℕ). drop k (b ∷ xs)) parts.1 ∙ dropped k (b ∷ front) rest (omega arith) in
    let rec = still_wrong (drop k (b ∷ more)) n' m later (drop k (b ∷ front)) rest other split' (omega (arith, length-drop k (b ∷ front))) in
    let rec' = subst (λ (xs : List ℕ). Faults xs n' m) (sym (dropped k (b ∷ front) other (omega arith))) rec in
    subst (λ (x : ℕ). Faults (x ∷ front ++ other) (k + n') m) parts.0 (skip b (front ++ other) k n' m stays some (omega (arith, length-append front other)) rec')
