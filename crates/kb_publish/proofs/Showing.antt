-- A publisher of a book shows its live lines.
use Rattle.std.proofs.Common.{◌≡◌, ℕ, zero, suc, ◌<◌, ◌≤◌, List, [], ◌∷◌, ◌++◌, Some, None, slice_get, fold, length, map, refl, sym, ◌∙◌, ap, arith}
use Rattle.std.specs.List.{All}
use Rattle.kb_word.specs.Words.{Pair}
use Rattle.kb_machine.specs.declared.line.Line.{Line}
use Rattle.kb_machine.specs.States.{State, rule_numbered}
use Rattle.kb_share.proofs.LiveRules.{get_within, rule_numbered_of_line}
use Rattle.kb_publish.specs.declared.edition.Lines.{Lines}
use Rattle.kb_publish.specs.declared.change.Change.{Change}
use Rattle.kb_publish.specs.declared.change.Change.TheVariants.{Published}
use Rattle.kb_publish.specs.Books.{LeadsTo}
use Rattle.kb_publish.specs.Editions.{changed, lines_by, version_of}
use Rattle.kb_publish.specs.Publishing.{Grows, Publishing}
use Rattle.kb_publish.specs.Versions.{counted, last}
use Rattle.kb_publish.proofs.Changing.{changed_then}
use Rattle.kb_publish.proofs.Lists.{last-one_more}

some-injective : {X : Type 0} {x y : X} → Some x ≡ Some y → x ≡ y
some-injective e = cc

none_some : {X : Type 0} {x : X} → None ≡ Some x → ⊥
none_some e = cc

-- what stands in a list stands there when others come
slice_get_before : {X : Type 0} (xs ys : List X) (index : ℕ) (x : X) → slice_get xs index ≡ Some x → slice_get (xs ++ ys) index ≡ Some x
slice_get_before [] ys index x at = absurd (none_some at)
slice_get_before (y ∷ xs) ys zero x at = at
slice_get_before (y ∷ xs) ys (suc index) x at = slice_get_before xs ys index x at

-- two functions that agree on all items
map_same : {X Y : Type 0} (P : X → Type 0) (f h : X → Y) → ((x : X) → P x → f x ≡ h x) → (xs : List X) → All P xs → map f xs ≡ map h xs
map_same P f h same [] all = refl
map_same P f h same (x ∷ xs) all =
    ap (λ y. y ∷ map f xs) (same x (all 0 x (omega arith)))
    ∙ ap (λ l. h x ∷ l) (map_same P f h same xs (λ i d within. all (suc i) d (omega (arith, within))))

-- a line keeps its rule while others come
same_rule : (lines made : List Line) (k : ℕ) → (0 < k) × (k ≤ length lines) → rule_numbered lines k ≡ rule_numbered (lines ++ made) k
same_rule lines made zero range = absurd (let low = range.0 in let no : ⊥ = omega (arith, low) in no)
same_rule lines made (suc index) range =
    let high = range.1 in
    let at = get_within lines index (omega (arith, high)) in
    rule_numbered_of_line lines index at.0 at.1
    ∙ sym (rule_numbered_of_line (lines ++ made) index at.0 (slice_get_before lines made index at.0 at.1))

-- the version of an earlier state, by the lines of a later one
earlier_by_later : (earlier later : State) (number : ℕ) → LeadsTo earlier later
    → version_of number earlier ≡ lines_by (rule_numbered later.lines) number earlier.live
earlier_by_later earlier later number leads =
    let same : map (rule_numbered earlier.lines) earlier.live ≡ map (rule_numbered (earlier.lines ++ leads.made)) earlier.live =
    map_same (λ k. (0 < k) × (k ≤ length earlier.lines)) (rule_numbered earlier.lines) (rule_numbered (earlier.lines ++ leads.made))
    (same_rule earlier.lines leads.made) earlier.live leads.numbers in
    let all = same ∙ ap (λ (l : List Line). map (rule_numbered l) earlier.live) (sym leads.lines) in
    ap (λ (r : List Pair). record { version = number; numbers = earlier.live; rules = r }) all

module _ {N : Type 0} where
  -- the changes to the live lines are told and published
  pub advances : (earlier later : State) (number : ℕ) (before middle after : Publishing Lines (Change N)) (changes : List (Change N))
      (numbers : List ℕ) → LeadsTo earlier later → last before.published ≡ Some (version_of number earlier) → before.pending ≡ []
      → numbers ≡ earlier.live
      → fold changed (lines_by (rule_numbered later.lines) number numbers) changes ≡ version_of number later
      → middle.published ≡ before.published → middle.pending ≡ (before.pending ++ changes) ++ Published ∷ []
      → Grows changed middle after → last after.published ≡ Some (version_of (counted number) later)
  advances earlier later number before middle after changes numbers leads shown told is makes published pending grows =
      let start : grows.last_state ≡ lines_by (rule_numbered later.lines) number numbers =
      some-injective (sym grows.was_last ∙ ap last published ∙ shown) ∙ earlier_by_later earlier later number leads
      ∙ ap (λ (l : List ℕ). lines_by (rule_numbered later.lines) number l) (sym is) in
      let all : middle.pending ≡ changes ++ Published ∷ [] = pending ∙ ap (λ (l : List (Change N)). (l ++ changes) ++ Published ∷ []) told in
      let next : fold changed grows.last_state middle.pending ≡ version_of (counted number) later =
      ap (λ (l : List (Change N)). fold changed grows.last_state l) all
      ∙ ap (λ (s : Lines). fold changed s (changes ++ Published ∷ [])) start
      ∙ changed_then (lines_by (rule_numbered later.lines) number numbers) changes Published
      ∙ ap (λ (l : Lines). changed {N = N} l Published) makes in
      ap last grows.one_more ∙ last-one_more middle.published (fold changed grows.last_state middle.pending) ∙ ap (λ (s : Lines). Some s) next
