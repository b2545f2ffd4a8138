-- What is left to keep, from a place of the first pair on.
use Rattle.std.proofs.Common.{◌≡◌, ℕ, suc, ◌+◌, ◌<◌, ◌≤◌, List, [], ◌∷◌, ◌++◌, length, slice_get, Some, sym, subst, refl, ap, ◌∙◌, append_assoc, length-append, arith}
use Rattle.std.specs.List.{Contains}
use Rattle.std.proofs.lemmas.List.{append-nil}
use Rattle.kb_word.specs.Words.{Pair}
use Rattle.kb_diff.specs.declared.grow.Grow.{Grow}
use Rattle.kb_diff.specs.declared.grow.Grow.TheVariants.{Grew, Same, Full}
use Rattle.kb_diff.specs.Groups.{Group}
use Rattle.kb_diff.specs.Differences.{IsDifference, AreFirstDifferences, last_place}
use Rattle.kb_diff.specs.Keeping.{Keeps, none_seen, known, added, Grows, no_room, AddsEach, none_left, and_next, AddsPairs, each, stopped, IsFull}
use Rattle.kb_diff.proofs.Growing.{grows_keeps}
use Rattle.kb_diff.proofs.Places.{one_difference, differences_before, last_item}
use Rattle.kb_kept.specs.Finding.{KeepsFrom, no_pairs, next_pair, known_at, first_at, full_at}

abbrev Words : Type 0
Words = List (List ℕ)

-- these are the differences at the places from this one on
abbrev AreFrom : Group → Pair → ℕ → Words → Type 0
AreFrom group pair place seen =
    (index : ℕ) (d : List ℕ) → slice_get seen index ≡ Some d → IsDifference group pair.0 pair.1 (place + index) d

module _ (group : Group) (words : Words) (answer : Grow) where
  from_next : (pair : Pair) (place : ℕ) (word : List ℕ) (seen : Words) → AreFrom group pair place (word ∷ seen)
      → AreFrom group pair (suc place) seen
  from_next pair place word seen are index d at =
      let P : ℕ → Type 0 = λ k. IsDifference group pair.0 pair.1 k d in
      let same : place + suc index ≡ suc place + index = omega arith in
      subst P same (are (suc index) d at)

  from_first : (pair : Pair) (place : ℕ) (word : List ℕ) (seen : Words) → AreFrom group pair place (word ∷ seen)
      → IsDifference group pair.0 pair.1 place word
  from_first pair place word seen are =
      let P : ℕ → Type 0 = λ k. IsDifference group pair.0 pair.1 k word in
      let same : place + 0 ≡ place = omega arith in
      subst P same (are 0 word refl)

  at_start : (pair : Pair) (rest : List Pair) (place other : ℕ) (kept : Words) → place ≡ other
      → KeepsFrom group words answer (pair ∷ rest) place kept → KeepsFrom group words answer (pair ∷ rest) other kept
  at_start pair rest place other kept same keeps =
      let P : ℕ → Type 0 = λ k. KeepsFrom group words answer (pair ∷ rest) k kept in
      subst P same keeps

  -- the places at which these words are seen come before what is left
  pub along : {old seen between : Words} (pair : Pair) (rest : List Pair) (place end : ℕ) → Keeps old seen between
      → AreFrom group pair place seen → end ≡ place + length seen → end ≤ suc (last_place pair.0 pair.1)
      → KeepsFrom group words answer (pair ∷ rest) end between
      → KeepsFrom group words answer (pair ∷ rest) place old
  along {old = old} pair rest place end none_seen are is within left =
      at_start pair rest end place old (omega arith) left
  along pair rest place end (known {seen = seen} {word = word} has keeps) are is within left =
      known_at word (from_first pair place word seen are) (omega arith) has
      (along pair rest (suc place) end keeps (from_next pair place word seen are) (omega arith) within left)
  along pair rest place end (added {seen = seen} {word = word} fresh keeps) are is within left =
      first_at word (from_first pair place word seen are) (omega arith) fresh
      (along pair rest (suc place) end keeps (from_next pair place word seen are) (omega arith) within left)

  from_one : (pair : Pair) (count : ℕ) (seen : Words) → AreFirstDifferences group pair.0 pair.1 count seen → AreFrom group pair 1 seen
  from_one pair count seen are index d at =
      let P : ℕ → Type 0 = λ k. IsDifference group pair.0 pair.1 k d in
      let same : suc index ≡ 1 + index = omega arith in
      subst P same (are.each index d at)

  -- all pairs are kept before what is left
  pub along_each : {most : ℕ} {front : List Pair} {old between : Words} (rest : List Pair) → AddsEach group most front old between
      → KeepsFrom group words answer rest 1 between → KeepsFrom group words answer (front ++ rest) 1 old
  along_each rest none_left left = left
  along_each {most = most} rest (and_next {pair = pair} {rest = front} {old = old} {between = between} one adds room others) left =
      let last = adds.all room in
      let count = adds.are_differences.one_each in
      along pair (front ++ rest) 1 (suc (last_place pair.0 pair.1)) (grows_keeps most adds.seen old between one adds.grows room)
      (from_one pair adds.count adds.seen adds.are_differences) (omega arith) (omega arith) (next_pair (omega arith) (along_each rest others left))

  -- the last pair has a difference for which there is no room
  along_full : (most : ℕ) (pair : Pair) (rest : List Pair) (old : Words) (count : ℕ) (seen : Words) (word : List ℕ) (place : ℕ)
      → AreFirstDifferences group pair.0 pair.1 count seen → count ≤ last_place pair.0 pair.1
      → Grows most seen old words (Full word place) → IsFull answer
      → KeepsFrom group words answer (pair ∷ rest) 1 old
  along_full most pair rest old count seen word place are within (no_room before last is keeps long fresh) full =
      let P : Words → Type 0 = λ s. AreFirstDifferences group pair.0 pair.1 count s in
      let whole = subst P is are in
      let front = differences_before group pair.0 pair.1 count before last whole in
      let one_each = whole.one_each in
      let push = length-append before (last ∷ []) in
      along pair rest 1 (suc (length before)) keeps (from_one pair (length before) before front) (omega arith) (omega arith)
      (full_at last (whole.each (length before) last (last_item before last)) (omega arith) fresh refl full)

-- what is kept of pairs is kept from the first place of the first pair on
pub left_at_start : (group : Group) (most : ℕ) (pairs : List Pair) (old words : Words) (answer : Grow)
    → AddsPairs group most pairs old words answer → KeepsFrom group words answer pairs 1 old
left_at_start group most pairs old words Grew (each all) =
    let P : List Pair → Type 0 = λ l. KeepsFrom group words Grew l 1 old in
    subst P (append-nil pairs) (along_each group words Grew [] all (no_pairs refl (λ full. full)))
left_at_start group most pairs old words Same adds = elim adds [ ]
left_at_start group most pairs old words (Full word place) (stopped before pair after between last number is front adds) =
    let P : List Pair → Type 0 = λ l. KeepsFrom group words (Full word place) l 1 old in
    subst P (sym is)
    (along_each group words (Full word place) (pair ∷ after) front
    (along_full group words (Full word place) most pair after between adds.count adds.seen word place adds.are_differences adds.within adds.grows tt))

-- ---- what is left, by cases

module _ (group : Group) (words : Words) (answer : Grow) where
  -- the words that are known are the first ones
  pub front : {pairs : List Pair} {place : ℕ} {kept : Words} → KeepsFrom group words answer pairs place kept
      → (later : Words) × (words ≡ kept ++ later)
  front {kept = kept} (no_pairs same room) = ([], sym same ∙ sym (append-nil kept))
  front (next_pair past left) = front left
  front (known_at word is within has left) = front left
  front {kept = kept} (first_at word is within fresh left) =
      let later = front left in (word ∷ later.0, later.1 ∙ append_assoc kept (word ∷ []) later.0)
  front {kept = kept} (full_at word is within fresh same full) = ([], sym same ∙ sym (append-nil kept))

  module _ (pair : Pair) (rest : List Pair) (place : ℕ) (kept : Words) where
    -- after the last place
    pub left_past : last_place pair.0 pair.1 < place → KeepsFrom group words answer (pair ∷ rest) place kept
        → KeepsFrom group words answer rest 1 kept
    left_past past (next_pair _ left) = left
    left_past past (known_at word is within has left) = absurd (omega arith)
    left_past past (first_at word is within fresh left) = absurd (omega arith)
    left_past past (full_at word is within fresh same full) = absurd (omega arith)

    module _ (d : List ℕ) (difference : IsDifference group pair.0 pair.1 place d) (inside : place ≤ last_place pair.0 pair.1) where
      same_word : (word : List ℕ) → IsDifference group pair.0 pair.1 place word → d ≡ word
      same_word word is = one_difference group pair.0 pair.1 place d word difference is

      not_fresh : (word : List ℕ) → IsDifference group pair.0 pair.1 place word → Contains kept d → ¬ Contains kept word → ⊥
      not_fresh word is has fresh =
          let P : List ℕ → Type 0 = λ w. Contains kept w in fresh (subst P (same_word word is) has)

      not_known : (word : List ℕ) → IsDifference group pair.0 pair.1 place word → ¬ Contains kept d → Contains kept word → ⊥
      not_known word is lacks has =
          let P : List ℕ → Type 0 = λ w. Contains kept w in lacks (subst P (sym (same_word word is)) has)

      -- where the difference is known
      pub left_known : Contains kept d → KeepsFrom group words answer (pair ∷ rest) place kept
          → KeepsFrom group words answer (pair ∷ rest) (suc place) kept
      left_known has (next_pair past left) = absurd (omega arith)
      left_known has (known_at word is within _ left) = left
      left_known has (first_at word is within fresh left) = absurd (not_fresh word is has fresh)
      left_known has (full_at word is within fresh same full) = absurd (not_fresh word is has fresh)

      -- where it isn't, and there is room
      pub left_first : ¬ Contains kept d → length kept < length words → KeepsFrom group words answer (pair ∷ rest) place kept
          → KeepsFrom group words answer (pair ∷ rest) (suc place) (kept ++ d ∷ [])
      left_first lacks room (next_pair past left) = absurd (omega arith)
      left_first lacks room (known_at word is within has left) = absurd (not_known word is lacks has)
      left_first lacks room (first_at word is within fresh left) =
          let P : List ℕ → Type 0 = λ w. KeepsFrom group words answer (pair ∷ rest) (suc place) (kept ++ w ∷ []) in
          subst P (sym (same_word word is)) left
      left_first lacks room (full_at word is within fresh same full) = absurd (omega (arith, ap length same))

      -- where it isn't, and there is no room
      pub left_full : ¬ Contains kept d → length words ≤ length kept → KeepsFrom group words answer (pair ∷ rest) place kept
          → (kept ≡ words) × IsFull answer
      left_full lacks room (next_pair past left) = absurd (omega arith)
      left_full lacks room (known_at word is within has left) = absurd (not_known word is lacks has)
      left_full lacks room (first_at word is within fresh left) =
          let later = front left in
          let long = length-append (kept ++ word ∷ []) later.0 in
          let push = length-append kept (word ∷ []) in
          absurd (omega (arith, ap length later.1))
      left_full lacks room (full_at word is within fresh same full) = (same, full)

  -- after the last pair
  pub left_none : (place : ℕ) (kept : Words) → KeepsFrom group words answer [] place kept → (kept ≡ words) × (¬ IsFull answer)
  left_none place kept (no_pairs same room) = (same, room)
