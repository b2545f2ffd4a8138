-- What is found and what is left, one place on, one equality on, and in the end.
use Rattle.std.proofs.Common.{◌≡◌, ℕ, suc, ◌<◌, ◌≤◌, List, [], ◌∷◌, ◌++◌, length, get_or, drop, slice_get, Option, Some, None, is_some, true, false, true≢false, map, sym, subst, refl, ap, ◌∙◌, arith}
use Rattle.std.specs.List.{Contains}
use Rattle.std.proofs.Math.Seq.{drop-cons}
use Rattle.std.proofs.lemmas.List.{drop_all, map_push}
use Rattle.std.proofs.lemmas.Option.{get_or_from_slice_get, none-some, slice_get_within}
use Rattle.kb_word.specs.Words.{Pair}
use Rattle.kb_diff.specs.declared.grow.Grow.{Grow}
use Rattle.kb_diff.specs.Groups.{Group}
use Rattle.kb_diff.specs.Differences.{IsDifference, last_place}
use Rattle.kb_diff.specs.Keeping.{AddsPairs}
use Rattle.kb_kept.specs.declared.equality.Equality.{Equality}
use Rattle.kb_kept.specs.declared.seen.Seen.{Seen}
use Rattle.kb_kept.specs.declared.listing.Found.{Found}
use Rattle.kb_kept.specs.Listed.{AreListed, IsAt, listed_words, pair_of}
use Rattle.kb_kept.specs.Finding.{AreListedBefore, FindsAt, FindsOne, known_already, found_first, no_room, IsFinished, KeepsFrom, Reaches, Standing, mark}
use Rattle.kb_kept.proofs.Remaining.{left_at_start, left_known, left_first, left_full, left_none, left_past}
use Rattle.kb_kept.proofs.Marks.{listed_none, listed_known, listed_first, listed_equality, listed_up_to, listed_whole}

abbrev Words : Type 0
Words = List (List ℕ)

-- before the first equality
pub standing_first : (group : Group) (most : ℕ) (words : Words) (answer : Grow) (equalities : List Equality) (found : Found)
    → AddsPairs group most (map pair_of equalities) ([] ∷ []) words answer → found.kept.items ≡ [] → found.known.keys ≡ [] ∷ []
    → Standing group words answer equalities 0 1 found
standing_first group most words answer equalities found adds none empty =
    let P : List Seen → Type 0 = λ kept. AreListedBefore group equalities kept (mark 0 1) in
    let Q : Words → Type 0 = λ known. KeepsFrom group words answer (map pair_of equalities) 1 known in record {
      known_are = empty ∙ ap listed_words (sym none);
      listed = subst P (sym none) (listed_none group equalities);
      left = subst Q (sym empty) (left_at_start group most (map pair_of equalities) ([] ∷ []) words answer adds);
    }

-- the same where what is found before has another workspace
pub finds_same : (most : ℕ) (seen : Seen) (old same new : Found) {needed : Option Seen} → same.known.keys ≡ old.known.keys
    → same.kept.items ≡ old.kept.items → FindsOne most seen old new needed → FindsOne most seen same new needed
finds_same most seen old same new known kept (known_already has known' kept') =
    let P : Words → Type 0 = λ it. Contains it seen.word in
    known_already (subst P (sym known) has) (known' ∙ sym known) (kept' ∙ sym kept)
finds_same most seen old same new known kept (found_first fresh room known' kept') =
    let P : Words → Type 0 = λ it. ¬ Contains it seen.word in
    found_first (subst P (sym known) fresh) (omega (arith, ap length known)) (known' ∙ ap (λ (it : Words). it ++ seen.word ∷ []) (sym known))
    (kept' ∙ ap (λ (it : List Seen). it ++ seen ∷ []) (sym kept))
finds_same most seen old same new known kept (no_room fresh full known' kept') =
    let P : Words → Type 0 = λ it. ¬ Contains it seen.word in
    no_room (subst P (sym known) fresh) (omega (arith, ap length known)) (known' ∙ sym known) (kept' ∙ sym kept)

-- the pairs from an index on
pub pairs_from : (equalities : List Equality) (index : ℕ) (equality : Equality) → slice_get equalities index ≡ Some equality
    → map pair_of (drop index equalities) ≡ pair_of equality ∷ map pair_of (drop (suc index) equalities)
pairs_from equalities index equality is =
    let same : drop index equalities ≡ get_or equalities index equality ∷ drop (suc index) equalities =
    drop-cons equalities index equality (slice_get_within equalities index equality is) in
    let first : get_or equalities index equality ≡ equality = get_or_from_slice_get equalities index equality equality is in
    ap (map pair_of) (same ∙ ap (λ (p : Equality). p ∷ drop (suc index) equalities) first)

module _ (group : Group) (words : Words) (answer : Grow) (equalities : List Equality) where
  -- a listing that is finished is so wherever it stands
  pub reaches_some : (index place other next : ℕ) (found : Found) (needed : Option Seen) → is_some needed ≡ true
      → Reaches group words answer equalities index place found needed → Reaches group words answer equalities other next found needed
  reaches_some index place other next found None some reached = absurd (true≢false (sym some))
  reaches_some index place other next found (Some seen) some reached = reached

  pub reaches_none : (index place : ℕ) (found : Found) (needed : Option Seen) → is_some needed ≡ false
      → Reaches group words answer equalities index place found needed → Standing group words answer equalities index place found
  reaches_none index place found None none reached = reached
  reaches_none index place found (Some seen) none reached = absurd (true≢false none)

  pub is_finished : (index place : ℕ) (found : Found) (needed : Option Seen) → is_some needed ≡ true
      → Reaches group words answer equalities index place found needed → IsFinished group words answer equalities found.kept.items needed
  is_finished index place found None some reached = absurd (true≢false (sym some))
  is_finished index place found (Some seen) some reached = reached

  place_cases : (equality : Equality) (index place : ℕ) (word : List ℕ) (old new : Found) {needed : Option Seen} → slice_get equalities index ≡ Some equality
      → IsAt group equalities (record { word = word; equality = index; place = place }) → IsDifference group equality.u equality.v place word
      → place ≤ last_place equality.u equality.v → Standing group words answer equalities index place old
      → FindsOne (length words) (record { word = word; equality = index; place = place }) old new needed
      → Reaches group words answer equalities index (suc place) new needed
  place_cases equality index place word old new at is difference within standing (known_already has known kept) =
      let rest = map pair_of (drop (suc index) equalities) in
      let K : List Seen → Type 0 = λ it. AreListedBefore group equalities it (mark index (suc place)) in
      let C : Words → Type 0 = λ it. Contains it word in
      let N : Words → Type 0 = λ it. KeepsFrom group words answer (map pair_of (drop index equalities)) (suc place) it in
      let F : List Pair → Type 0 = λ pairs. KeepsFrom group words answer pairs place old.known.keys in
      let T : List Pair → Type 0 = λ pairs. KeepsFrom group words answer pairs (suc place) old.known.keys in
      let left = left_known group words answer (pair_of equality) rest place old.known.keys word difference within has
      (subst F (pairs_from equalities index equality at) standing.left) in record {
        known_are = known ∙ (standing.known_are ∙ ap listed_words (sym kept));
        listed = subst K (sym kept)
            (listed_known group equalities old.kept.items index place word is standing.listed (subst C standing.known_are has));
        left = subst N (sym known) (subst T (sym (pairs_from equalities index equality at)) left);
      }
  place_cases equality index place word old new at is difference within standing (found_first fresh room known kept) =
      let rest = map pair_of (drop (suc index) equalities) in
      let here : Seen = record { word = word; equality = index; place = place } in
      let K : List Seen → Type 0 = λ it. AreListedBefore group equalities it (mark index (suc place)) in
      let C : Words → Type 0 = λ it. ¬ Contains it word in
      let N : Words → Type 0 = λ it. KeepsFrom group words answer (map pair_of (drop index equalities)) (suc place) it in
      let F : List Pair → Type 0 = λ pairs. KeepsFrom group words answer pairs place old.known.keys in
      let T : List Pair → Type 0 = λ pairs. KeepsFrom group words answer pairs (suc place) (old.known.keys ++ word ∷ []) in
      let left = left_first group words answer (pair_of equality) rest place old.known.keys word difference within fresh room
      (subst F (pairs_from equalities index equality at) standing.left) in
      let more : listed_words old.kept.items ++ word ∷ [] ≡ listed_words (old.kept.items ++ here ∷ []) =
      ap (λ (l : Words). [] ∷ l) (sym (map_push (λ (seen : Seen). seen.word) old.kept.items here)) in record {
        known_are = known ∙ (ap (λ (l : Words). l ++ word ∷ []) standing.known_are ∙ (more ∙ ap listed_words (sym kept)));
        listed = subst K (sym kept)
            (listed_first group equalities old.kept.items index place word is standing.listed (subst C standing.known_are fresh));
        left = subst N (sym known) (subst T (sym (pairs_from equalities index equality at)) left);
      }
  place_cases equality index place word old new at is difference within standing (no_room fresh full known kept) =
      let rest = map pair_of (drop (suc index) equalities) in
      let here : Seen = record { word = word; equality = index; place = place } in
      let K : List Seen → Type 0 = λ it. AreListed group equalities it (Some here) in
      let C : Words → Type 0 = λ it. ¬ Contains it word in
      let F : List Pair → Type 0 = λ pairs. KeepsFrom group words answer pairs place old.known.keys in
      let end = left_full group words answer (pair_of equality) rest place old.known.keys word difference within fresh full
      (subst F (pairs_from equalities index equality at) standing.left) in record {
        listed = subst K (sym kept)
            (listed_up_to group equalities old.kept.items index place word is standing.listed (subst C standing.known_are fresh));
        words_are = ap listed_words kept ∙ (sym standing.known_are ∙ end.0);
        full = (λ some. end.1, λ full none. none-some here (sym none));
      }

  -- one place on
  pub place_more : (equality : Equality) (index place next : ℕ) (old new : Found) (needed : Option Seen) → next ≡ suc place
      → slice_get equalities index ≡ Some equality → 0 < place → place ≤ last_place equality.u equality.v
      → Standing group words answer equalities index place old → FindsAt group (length words) equality index place old new needed
      → Reaches group words answer equalities index next new needed
  place_more equality index place next old new needed is at positive within standing finds =
      let P : ℕ → Type 0 = λ k. Reaches group words answer equalities index k new needed in
      let there : IsAt group equalities (record { word = finds.word; equality = index; place = place }) =
      record { equality = equality; is_equality = at; positive = positive; within = within; difference = finds.difference } in
      subst P (sym is) (place_cases equality index place finds.word old new at there finds.difference within standing finds.finds)

  -- one equality on
  pub equality_more : (equality : Equality) (index place next : ℕ) (found : Found) → next ≡ suc index → slice_get equalities index ≡ Some equality
      → last_place equality.u equality.v < place → Standing group words answer equalities index place found
      → Standing group words answer equalities next 1 found
  equality_more equality index place next found is at past standing =
      let P : ℕ → Type 0 = λ k. Standing group words answer equalities k 1 found in
      let L : List Pair → Type 0 = λ pairs. KeepsFrom group words answer pairs place found.known.keys in
      subst P (sym is) (record {
        known_are = standing.known_are;
        listed = listed_equality group equalities found.kept.items index place equality at past standing.listed;
        left = left_past group words answer (pair_of equality) (map pair_of (drop (suc index) equalities)) place found.known.keys past
            (subst L (pairs_from equalities index equality at) standing.left);
      })

  -- after the last equality
  pub finished : (index place : ℕ) (found : Found) → length equalities ≤ index → Standing group words answer equalities index place found
      → IsFinished group words answer equalities found.kept.items None
  finished index place found past standing =
      let L : List Pair → Type 0 = λ pairs. KeepsFrom group words answer pairs place found.known.keys in
      let end = left_none group words answer place found.known.keys (subst L (ap (map pair_of) (drop_all index equalities past)) standing.left) in record {
        listed = listed_whole group equalities found.kept.items index place past standing.listed;
        words_are = sym standing.known_are ∙ end.0;
        full = (λ not. absurd (not refl), λ full. absurd (end.1 full));
      }
