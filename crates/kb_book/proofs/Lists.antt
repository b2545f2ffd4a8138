-- Lists with an element taken out or put at the end, and lines by their numbers.
use Rattle.std.proofs.Common.{◌≡◌, ℕ, zero, suc, ◌≤◌, List, [], ◌∷◌, ◌++◌, length, take, drop, map, Some, None, slice_get, All, refl, sym, ap, ◌∙◌, arith}
use Rattle.std.proofs.lemmas.Option.{none-some, same_Some, slice_get-map, slice_get_past, slice_get_read, slice_get_within, get_or_from_slice_get}
use Rattle.std.proofs.lemmas.List.Elements.{All-append, All-take, All-drop}
use Rattle.std.specs.List.{remove, Contains}
use Rattle.std.specs.Option.{option_map}
use Rattle.kb_word.specs.Words.{Pair, OneOf}
use Rattle.kb_machine.specs.declared.line.Line.{Line}
use Rattle.kb_machine.specs.Lines.{numbered, rule_of, rules_of}

-- an element between two lists, taken out
pub remove_seam : {X : Type 0} (earlier : List X) (x : X) (later : List X)
    → remove (earlier ++ x ∷ later) (length earlier) ≡ earlier ++ later
remove_seam [] x later = refl
remove_seam (y ∷ earlier) x later = ap (λ l. y ∷ l) (remove_seam earlier x later)

-- an element, and the lists before and after it
pub parts_at : {X : Type 0} (xs : List X) (index : ℕ) (x : X) → slice_get xs index ≡ Some x
    → xs ≡ take index xs ++ x ∷ drop (suc index) xs
parts_at [] index x is = absurd (none-some x is)
parts_at (y ∷ xs) zero x is = ap (λ z. z ∷ xs) (same_Some y x is)
parts_at (y ∷ xs) (suc index) x is = ap (λ l. y ∷ l) (parts_at xs index x is)

pub map-remove : {X Y : Type 0} (f : X → Y) (xs : List X) (index : ℕ) → map f (remove xs index) ≡ remove (map f xs) index
map-remove f [] zero = refl
map-remove f [] (suc index) = refl
map-remove f (x ∷ xs) zero = refl
map-remove f (x ∷ xs) (suc index) = ap (λ l. f x ∷ l) (map-remove f xs index)

pub All-remove : {X : Type 0} (P : X → Type 0) (xs : List X) (index : ℕ) → All P xs → All P (remove xs index)
All-remove P xs index all = All-append P (take index xs) (drop (suc index) xs) (All-take P index xs all) (All-drop P (suc index) xs all)

pub All-one : {X : Type 0} (P : X → Type 0) (x : X) → P x → All P (x ∷ [])
All-one P x holds zero d within = holds
All-one P x holds (suc k) d within = absurd (omega arith)

-- the only element of a list
pub only : {X : Type 0} (x y : X) → Contains (x ∷ []) y → x ≡ y
only x y (zero, within, same) = same
only x y (suc k, within, same) = absurd (omega arith)

-- a line more at the end
pub rules_of-push : (lines : List Line) (line : Line) → rules_of (lines ++ line ∷ []) ≡ rules_of lines ++ rule_of line ∷ []
rules_of-push [] line = refl
rules_of-push (first ∷ lines) line = ap (λ (l : List Pair). rule_of first ∷ l) (rules_of-push lines line)

-- what has a number is one of the list
pub numbered_one : (rules : List Pair) (k : ℕ) (rule : Pair) → numbered rules k ≡ Some rule → OneOf rules rule
numbered_one rules zero rule is = absurd (none-some rule is)
numbered_one rules (suc index) rule is = (index, is)

-- the rule of the line at an index has the number after it
pub rule_numbered_some : (lines : List Line) (k index : ℕ) (line : Line) → k ≡ suc index → slice_get lines index ≡ Some line
    → numbered (rules_of lines) k ≡ Some (rule_of line)
rule_numbered_some lines k index line is there =
    ap (numbered (rules_of lines)) is ∙ slice_get-map rule_of lines index ∙ ap (option_map rule_of) there

pub rule_numbered_none : (lines : List Line) (k index : ℕ) → k ≡ suc index → length lines ≤ index
    → numbered (rules_of lines) k ≡ None
rule_numbered_none lines k index is past =
    ap (numbered (rules_of lines)) is ∙ slice_get-map rule_of lines index ∙ ap (option_map rule_of) (slice_get_past lines index past)

slice_get-more : {X : Type 0} (xs more : List X) (index : ℕ) (x : X) → slice_get xs index ≡ Some x
    → slice_get (xs ++ more) index ≡ Some x
slice_get-more [] more index x is = absurd (none-some x is)
slice_get-more (y ∷ xs) more zero x is = is
slice_get-more (y ∷ xs) more (suc index) x is = slice_get-more xs more index x is

-- numbers stay where more is added
pub numbered-more : {X : Type 0} (xs more : List X) (k : ℕ) (x : X) → numbered xs k ≡ Some x → numbered (xs ++ more) k ≡ Some x
numbered-more xs more zero x is = absurd (none-some x is)
numbered-more xs more (suc index) x is = slice_get-more xs more index x is

-- what a list contains stands at some index
pub contained : {X : Type 0} (xs : List X) (x : X) → (c : Contains xs x) → slice_get xs c.0 ≡ Some x
contained xs x c = slice_get_read xs (length xs) c.0 x refl c.1 (sym c.2)

pub contains_at : {X : Type 0} (xs : List X) (index : ℕ) (x : X) → slice_get xs index ≡ Some x → Contains xs x
contains_at xs index x is = (index, slice_get_within xs index x is, get_or_from_slice_get xs index x x is)
