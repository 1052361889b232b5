-- What is written for the numbers of nodes, one behind the other.
use Rattle.std.proofs.Common.{◌≡◌, ℕ, ◌-◌, ◌<◌, ◌≤◌, take, arith, Bool, true, false, List, [], ◌∷◌, ◌++◌, Option, Some, None, is_some, length, map, flat_map, drop, codes, refl, sym, ap, ◌∙◌, true≢false, append_assoc}
use Rattle.std.specs.Prelude.{option_map}
use Rattle.std.specs.List.{slice_get}
use Rattle.std.proofs.lemmas.Option.{slice_get_past}
use Rattle.std.proofs.Math.Seq.{take-length}
use Rattle.std.proofs.lemmas.List.{append-nil}
use Rattle.std.proofs.lemmas.Grind.{flat_map-append}
use Rattle.sy_core.specs.declared.deed.Deed.{Deed}
use Rattle.sy_core.specs.NodeTexts.{node_text}
use Rattle.sy_core.specs.Prerequisites.{Node, node_list, nodes, nodes_at}
use Rattle.sy_typing.specs.Machine.Lines.{node_line, node_word, order_lines_at, words_at}
use Rattle.sy_typing.specs.Plans.{joined, node_texts, order_line}

unsome : {A : Type 0} (x y : A) → Some x ≡ Some y → x ≡ y
unsome x y p = cc

-- what is made of the text of a node that is there
pub made : {A : Type 0} (f : A → List ℕ) (g : A → List ℕ) (wrap : List ℕ → List ℕ) → ((a : A) → g a ≡ wrap (f a))
    → (list : Option A → List A) → (list None ≡ []) → ((a : A) → list (Some a) ≡ a ∷ [])
    → (o : Option A) (text : List ℕ) → Some text ≡ option_map f o → wrap text ≡ flat_map g (list o)
made f g wrap same list none some None text is = absurd (true≢false (ap is_some is))
made f g wrap same list none some (Some a) text is =
    ap wrap (unsome text (f a) is) ∙ sym (same a) ∙ sym (append-nil (g a)) ∙ sym (ap (flat_map g) (some a))

-- the line of a node that is there, and nothing for one that isn't
pub line_there : (deed : Deed) (number : ℕ) (text : List ℕ) → Some text ≡ option_map (node_text deed) (slice_get (nodes deed) number)
    → order_line text ≡ order_lines_at deed number
line_there deed number text is =
    made (node_text deed) (node_line deed) order_line (λ node. refl) node_list refl (λ node. refl) (slice_get (nodes deed) number) text is

pub no_line : (deed : Deed) (number : ℕ) → length (nodes deed) ≤ number → [] ≡ order_lines_at deed number
no_line deed number past = sym (ap (λ o. flat_map (node_line deed) (node_list o)) (slice_get_past (nodes deed) number past))

-- the same of its text with a blank before it
pub word_there : (deed : Deed) (number : ℕ) (text : List ℕ) → Some text ≡ option_map (node_text deed) (slice_get (nodes deed) number)
    → codes " " ++ text ≡ words_at deed number
word_there deed number text is =
    made (node_text deed) (node_word deed) (λ word. codes " " ++ word) (λ node. refl) node_list refl (λ node. refl) (slice_get (nodes deed) number) text is

pub no_word : (deed : Deed) (number : ℕ) → length (nodes deed) ≤ number → [] ≡ words_at deed number
no_word deed number past = sym (ap (λ o. flat_map (node_word deed) (node_list o)) (slice_get_past (nodes deed) number past))

-- what is made of the nodes with some numbers, number by number or node by node
by_node : (deed : Deed) (wrap : List ℕ → List ℕ) (numbers : List ℕ)
    → flat_map (λ k. flat_map (λ node. wrap (node_text deed node)) (node_list (slice_get (nodes deed) k))) numbers
    ≡ flat_map wrap (node_texts deed numbers)
by_node deed wrap [] = refl
by_node deed wrap (k ∷ numbers) =
    ap (λ l. flat_map (λ node. wrap (node_text deed node)) (node_list (slice_get (nodes deed) k)) ++ l) (by_node deed wrap numbers)
    ∙ front (node_list (slice_get (nodes deed) k))
  where
    front : (ns : List Node) → flat_map (λ node. wrap (node_text deed node)) ns ++ flat_map wrap (node_texts deed numbers)
        ≡ flat_map wrap (map (node_text deed) (ns ++ nodes_at deed numbers))
    front [] = refl
    front (n ∷ ns) =
        append_assoc (wrap (node_text deed n)) (flat_map (λ node. wrap (node_text deed node)) ns) (flat_map wrap (node_texts deed numbers))
        ∙ ap (λ l. wrap (node_text deed n) ++ l) (front ns)

pub lines_by_node : (deed : Deed) (numbers : List ℕ)
    → flat_map (order_lines_at deed) numbers ≡ flat_map order_line (node_texts deed numbers)
lines_by_node deed numbers = by_node deed order_line numbers

pub words_by_node : (deed : Deed) (numbers : List ℕ)
    → flat_map (words_at deed) numbers ≡ flat_map (λ word. codes " " ++ word) (node_texts deed numbers)
words_by_node deed numbers = by_node deed (λ word. codes " " ++ word) numbers

abbrev is_full : {A : Type 0} → List A → Bool
is_full [] = false
is_full (x ∷ xs) = true

-- words with a blank before each: there is none, or without the first blank they are words with a blank between them
pub no_words : (words : List (List ℕ)) → flat_map (λ word. codes " " ++ word) words ≡ [] → [] ≡ joined words
no_words [] is = refl
no_words (word ∷ words) is = absurd (true≢false (ap is_full is))

pub behind_blank : (words : List (List ℕ)) (first : ℕ) (rest : List ℕ)
    → flat_map (λ word. codes " " ++ word) words ≡ first ∷ rest → rest ≡ joined words
behind_blank [] first rest is = absurd (true≢false (sym (ap is_full is)))
behind_blank (word ∷ words) first rest is = sym (ap (drop 1) is)

-- what is left of words with a blank before each, without the first byte
pub none_left : (words : List (List ℕ)) (now : List ℕ) → now ≡ flat_map (λ word. codes " " ++ word) words → length now < 1 → [] ≡ joined words
none_left words [] is below = no_words words (sym is)
none_left words (first ∷ rest) is below = absurd (omega arith)

pub rest_left : (words : List (List ℕ)) (now : List ℕ) → now ≡ flat_map (λ word. codes " " ++ word) words
    → take (length now - 1) (drop 1 now) ≡ joined words
rest_left words [] is = no_words words (sym is)
rest_left words (first ∷ rest) is =
    let one : length (first ∷ rest) - 1 ≡ length rest = omega arith in
    ap (λ n. take n rest) one ∙ take-length rest ∙ behind_blank words first rest (sym is)
