-- The states whose words have a state's word as a factor.
use Rattle.std.proofs.Common.{◌≡◌, ℕ, zero, suc, ◌<◌, Bool, true, false, cond, nat_cmp, eqb, List, [], ◌∷◌, ◌++◌, length, get_or, take, refl, sym, ap, ◌∙◌, subst, inl, inr, arith}
use Rattle.std.specs.List.{Contains, dedup, filter}
use Rattle.std.specs.List.Sorted.{IsPermutation, IsSorted}
use Rattle.std.proofs.lemmas.Bool.{lt-ltb, ltb-true}
use Rattle.std.proofs.lemmas.List.{get_or-take}
use Rattle.std.proofs.lemmas.List.Elements.{All-contains, All-contains_itself, All-filter, filter_passes}
use Rattle.std.proofs.lemmas.List.Kept.{AllPairs-from_increasing, Contains-dedup_nat, Contains-from_dedup, IsStrictlyIncreasing-filter}
use Rattle.std.proofs.lemmas.List.Sorted.{Contains-permutation, IsPermutation-sym}
use Rattle.std.proofs.lemmas.Map.Keys.{IsStrictlyIncreasing-dedup}
use Rattle.kb_word.specs.Words.{EndsWith, IsFactor}
use Rattle.kb_trie.specs.States.{AreWords, word}
use Rattle.kb_trie.specs.Steps.{AreLinks}
use Rattle.kb_trie.specs.Adding.{AddsAscending}
use Rattle.kb_trie.specs.Children.{AreBelow, IsBelowOne}
use Rattle.kb_trie.specs.Ends.{keeps}
use Rattle.kb_trie.specs.Factors.{IsNumberedOver}
use Rattle.kb_trie.specs.Walks.{IsWalk, NotesNothing}
use Rattle.kb_trie.proofs.Adding.{contains_none}
use Rattle.kb_trie.proofs.Among.{among_contains, contains_among}
use Rattle.kb_trie.proofs.Below.{beginning}
use Rattle.kb_trie.proofs.Walking.{reach}

contains_either : (b : Bool) (y : ℕ) (xs : List ℕ) (x : ℕ) → Contains xs x → Contains (cond b (y ∷ xs) xs) x
contains_either true y xs x is = (suc is.0, omega (arith, is.1), is.2)
contains_either false y xs x is = is

-- a number that passes stays
contains_filter : (p : ℕ → Bool) (xs : List ℕ) (x : ℕ) → Contains xs x → p x ≡ true → Contains (filter p xs) x
contains_filter p [] x is passes = absurd (contains_none x is)
contains_filter p (y ∷ xs) x (zero, within, is) passes =
    let P : Bool → Type 0 = λ b. Contains (cond b (y ∷ filter p xs) (filter p xs)) x in
    subst P (sym (ap p is ∙ passes)) (0, omega arith, is)
contains_filter p (y ∷ xs) x (suc place, within, is) passes =
    contains_either (p y) y (filter p xs) x (contains_filter p xs x (place, omega arith, is) passes)

-- a word that ends with the other, and goes on
factor_of : (w u v rest : List ℕ) → EndsWith u v → w ≡ u ++ rest → IsFactor w v
factor_of w u v rest ends whole = (
  length ends.0,
  record {
    before = ends.0;
    after = rest;
    whole = whole ∙ ap (λ (x : List ℕ). x ++ rest) ends.1;
    at = refl;
  },
)

-- the states below those that a walk reached that never stops are those whose words have the root's as a factor
pub below_factor : (words : List (List ℕ)) (links : List ℕ) (root : ℕ) (free stopped below : List ℕ)
    → IsWalk words links NotesNothing root free stopped → AreBelow words free below
    → (state : ℕ) → Contains below state → (state < length words) × IsFactor (word words state) (word words root)
below_factor words links root free stopped below walk are state is =
    let one : IsBelowOne words free state = are.each state is in
    let top = walk.free_each one.root (among_contains free one.root one.among) in
    (one.within, factor_of (word words state) (word words one.root) (word words root) one.begins.rest top.ends one.begins.whole)

pub factor_below : (words : List (List ℕ)) → AreWords words → (links : List ℕ) → AreLinks words links → (root : ℕ) (free stopped below : List ℕ)
    → root < length words → IsWalk words links NotesNothing root free stopped → AreBelow words free below
    → (state : ℕ) → state < length words → IsFactor (word words state) (word words root) → Contains below state
factor_below words are links linked root free stopped below in_words walk all state within factor =
    let stands = factor.1 in
    let first = beginning words are (stands.before ++ word words root) state stands.after within stands.whole in
    elim (reach words are links linked NotesNothing root free stopped in_words walk first.0 first.1.within (stands.before, first.1.is)) [
      | inl among ↦
          all.all state (record {
            within = within;
            root = first.0;
            among = contains_among free first.0 among;
            begins = record {
              rest = stands.after;
              whole = stands.whole ∙ ap (λ (w : List ℕ). w ++ stands.after) (sym first.1.is);
            };
          })
      | inr blocked ↦ absurd (blocked.note)
    ]

-- those of them that keep a number, each once
pub added_longer : (words : List (List ℕ)) → AreWords words → (links numbers : List ℕ) → AreLinks words links → (root : ℕ)
    (free stopped below sorted single before after : List ℕ) → root < length words → IsWalk words links NotesNothing root free stopped
    → AreBelow words free below → IsPermutation below sorted → IsSorted nat_cmp sorted → single ≡ dedup eqb sorted
    → after ≡ before ++ filter (keeps numbers) single
    → AddsAscending (IsNumberedOver words (take (length words) numbers) root) before after
added_longer words are links numbers linked root free stopped below sorted single before after in_words walk all moved ordered single_is after_is =
    let part : List ℕ = filter (keeps numbers) (dedup eqb sorted) in
    let whole : after ≡ before ++ filter (keeps numbers) (dedup eqb sorted) =
    after_is ∙ ap (λ (l : List ℕ). before ++ filter (keeps numbers) l) single_is in
    record {
      adds = record {
        more = part;
        whole = whole;
        each = λ state is.
            let passes : keeps numbers state ≡ true =
            All-contains (λ (s : ℕ). keeps numbers s ≡ true) part state (filter_passes (keeps numbers) (dedup eqb sorted)) is in
            let there : Contains (dedup eqb sorted) state =
            All-contains (Contains (dedup eqb sorted)) part state
            (All-filter (keeps numbers) (Contains (dedup eqb sorted)) (dedup eqb sorted) (All-contains_itself (dedup eqb sorted))) is in
            let in_below : Contains below state =
            Contains-permutation sorted below state (IsPermutation-sym below sorted moved) (Contains-from_dedup eqb sorted state there) in
            let over = below_factor words links root free stopped below walk all state in_below in
            record {
              within = over.0;
              keeps = omega (arith, ltb-true 0 (get_or numbers state 0) passes, get_or-take (length words) numbers state 0 over.0);
              factor = over.1;
            };
        all = λ state is.
            let in_below : Contains below state =
            factor_below words are links linked root free stopped below in_words walk all state is.within is.factor in
            let kept : 0 < get_or numbers state 0 = omega (arith, is.keeps, get_or-take (length words) numbers state 0 is.within) in
            contains_filter (keeps numbers) (dedup eqb sorted) state
            (Contains-dedup_nat sorted state (Contains-permutation below sorted state moved in_below))
            (lt-ltb 0 (get_or numbers state 0) kept);
      };
      ascend = AllPairs-from_increasing part (IsStrictlyIncreasing-filter (keeps numbers) (dedup eqb sorted) (IsStrictlyIncreasing-dedup sorted ordered));
    }
