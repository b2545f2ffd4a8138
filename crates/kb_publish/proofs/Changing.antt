-- What changes make of lines.
use Rattle.std.proofs.Common.{◌≡◌, ℕ, ◌+◌, ◌<◌, ◌≤◌, suc, List, [], ◌∷◌, ◌++◌, Some, fold, length, map, take, drop, get_or, slice_get, sym, ◌∙◌, ap, arith, append_assoc}
use Rattle.std.specs.List.{remove}
use Rattle.std.proofs.Math.ListN.{drop_of_length-le}
use Rattle.std.proofs.Math.Nat.{sub_self}
use Rattle.std.proofs.Math.Seq.{take-suc}
use Rattle.std.proofs.lemmas.List.{append-nil, length-map, map-append, take_all}
use Rattle.std.proofs.lemmas.List.Edits.{remove-append_right}
use Rattle.std.proofs.lemmas.List.Sums.{fold-append}
use Rattle.std.proofs.lemmas.Option.{slice_get_within, get_or_from_slice_get}
use Rattle.kb_word.specs.Words.{Pair}
use Rattle.kb_publish.specs.declared.edition.Lines.{Lines}
use Rattle.kb_publish.specs.declared.change.Change.{Change}
use Rattle.kb_publish.specs.declared.change.Change.TheVariants.{Gone, Live}
use Rattle.kb_publish.specs.LiveLines.{NumberedRule}
use Rattle.kb_publish.specs.Editions.{changed, lines_by}

-- where there is nothing at the place, nothing goes
pub past_end : {X : Type 0} (xs : List X) (place : ℕ) → length xs ≤ place → xs ≡ remove xs place
past_end xs place past =
    let all : take place xs ≡ xs = take_all place xs past in
    let none : drop (suc place) xs ≡ [] = drop_of_length-le xs {i = suc place} (omega (arith, past)) in
    sym (append-nil xs) ∙ ap (λ (l : List _). xs ++ l) (sym none) ∙ ap (λ (l : List _). l ++ drop (suc place) xs) (sym all)

-- what stands at the place goes
pub gone_at : {X : Type 0} (first : List X) (x : X) (rest : List X) (place : ℕ) → length first ≡ place
    → remove (first ++ x ∷ rest) place ≡ first ++ rest
gone_at first x rest place is =
    remove-append_right first (x ∷ rest) place place is (omega arith)
    ∙ ap (λ (n : ℕ). first ++ remove (x ∷ rest) n) (sub_self place)

-- one that stands at its place is kept
pub kept_at : (live : List ℕ) (kept number : ℕ) (rest : List ℕ) → slice_get live kept ≡ Some number
    → take kept live ++ number ∷ rest ≡ take (kept + 1) live ++ rest
kept_at live kept number rest at =
    let one : take (suc kept) live ≡ take kept live ++ get_or live kept 0 ∷ [] = take-suc live kept 0 (slice_get_within live kept number at) in
    let is : get_or live kept 0 ≡ number = get_or_from_slice_get live kept number 0 at in
    let more : take (suc kept) live ≡ take kept live ++ number ∷ [] = one ∙ ap (λ (n : ℕ). take kept live ++ n ∷ []) is in
    let split : take kept live ++ number ∷ rest ≡ (take kept live ++ number ∷ []) ++ rest =
    sym (append_assoc (take kept live) (number ∷ []) rest) in
    let next : suc kept ≡ kept + 1 = omega arith in
    split ∙ ap (λ (l : List ℕ). l ++ rest) (sym more) ∙ ap (λ (n : ℕ). take n live ++ rest) next

module _ {N : Type 0} where
  -- a change more
  pub changed_then : (start : Lines) (changes : List (Change N)) (change : Change N)
      → fold changed start (changes ++ change ∷ []) ≡ changed (fold changed start changes) change
  changed_then start changes change = fold-append changed start changes (change ∷ [])

  -- where a number doesn't stand at its place, its line goes
  pub gone_more : (start : Lines) (changes : List (Change N)) (rule : ℕ → Pair) (version : ℕ) (first : List ℕ) (number : ℕ)
      (rest : List ℕ) (place : ℕ) → length first ≡ place
      → fold changed start changes ≡ lines_by rule version (first ++ number ∷ rest)
      → fold changed start (changes ++ Gone place ∷ []) ≡ lines_by rule version (first ++ rest)
  gone_more start changes rule version first number rest place is before =
      let numbers = gone_at first number rest place is in
      let split : map rule (first ++ number ∷ rest) ≡ map rule first ++ rule number ∷ map rule rest = map-append rule first (number ∷ rest) in
      let rules : remove (map rule (first ++ number ∷ rest)) place ≡ map rule (first ++ rest) =
      ap (λ (l : List Pair). remove l place) split
      ∙ gone_at (map rule first) (rule number) (map rule rest) place (length-map first rule ∙ is)
      ∙ sym (map-append rule first rest) in
      let after : changed {N = N} (lines_by rule version (first ++ number ∷ rest)) (Gone place) ≡ lines_by rule version (first ++ rest) =
      ap (λ (l : List ℕ). record {
        version = version;
        numbers = l;
        rules = remove (map rule (first ++ number ∷ rest)) place;
      }) numbers
      ∙ ap (λ (r : List Pair). record { version = version; numbers = first ++ rest; rules = r }) rules in
      changed_then start changes (Gone place) ∙ ap (λ (l : Lines). changed {N = N} l (Gone place)) before ∙ after

  -- the next line is added
  pub live_more : (start : Lines) (changes : List (Change N)) (rule : ℕ → Pair) (version : ℕ) (live : List ℕ) (place : ℕ)
      (line : NumberedRule) → place < length live → line.number ≡ get_or live place 0 → line.rule ≡ rule line.number
      → fold changed start changes ≡ lines_by rule version (take place live)
      → fold changed start (changes ++ Live line ∷ []) ≡ lines_by rule version (take (place + 1) live)
  live_more start changes rule version live place line within number own before =
      let next : suc place ≡ place + 1 = omega arith in
      let more : take (suc place) live ≡ take place live ++ line.number ∷ [] =
      take-suc live place 0 within ∙ ap (λ (n : ℕ). take place live ++ n ∷ []) (sym number) in
      let rules : map rule (take place live) ++ line.rule ∷ [] ≡ map rule (take place live ++ line.number ∷ []) =
      ap (λ (r : Pair). map rule (take place live) ++ r ∷ []) own ∙ sym (map-append rule (take place live) (line.number ∷ [])) in
      let after : changed {N = N} (lines_by rule version (take place live)) (Live line) ≡ lines_by rule version (take place live ++ line.number ∷ []) =
      ap (λ (r : List Pair). record { version = version; numbers = take place live ++ line.number ∷ []; rules = r }) rules in
      changed_then start changes (Live line) ∙ ap (λ (l : Lines). changed {N = N} l (Live line)) before ∙ after
      ∙ ap (λ (l : List ℕ). lines_by rule version l) (sym more ∙ ap (λ (n : ℕ). take n live) next)
