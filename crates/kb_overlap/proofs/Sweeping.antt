-- From level to level, until no state is left.
use Rattle.std.proofs.Common.{◌≡◌, ℕ, ◌+◌, ◌-◌, ◌<◌, ◌≤◌, List, [], ◌++◌, length, get_or, take, drop, sym, subst, inl, inr, arith, length-append, length-drop}
use Rattle.std.specs.List.{Contains}
use Rattle.std.proofs.lemmas.Bool.{cases_lt}
use Rattle.std.proofs.lemmas.List.{take_all}
use Rattle.std.proofs.lemmas.List.Elements.{Contains-get_or}
use Rattle.kb_word.specs.Words.{Pair, OneOf}
use Rattle.kb_word.specs.Rewriting.{IsIrreducible}
use Rattle.kb_rules.specs.Ending.{NoneEnds}
use Rattle.kb_rules.proofs.Endings.{irreducible_front}
use Rattle.kb_trie.specs.States.{word}
use Rattle.kb_trie.specs.Steps.{IsStepBeyond}
use Rattle.kb_trie.proofs.Longest.{depth_below}
use Rattle.kb_trie.proofs.Suffixes.{ends_length}
use Rattle.kb_index.specs.Lefts.{left_at}
use Rattle.kb_overlap.specs.declared.left_sides.Overlap.{Overlap}
use Rattle.kb_overlap.specs.Prefixes.{AreWordsOf, GoesOn}
use Rattle.kb_overlap.specs.Ways.{AreReached, EndsRead, Gains, IsMet, IsProper, IsReached}
use Rattle.kb_overlap.proofs.Gaining.{Over, gains_none, gains_same, gains_then}
use Rattle.kb_overlap.proofs.Reached.{reached_earlier}
use Rattle.kb_overlap.proofs.Sticking.{proper_of, met_of}

-- a letter leads on, where no left side ends at the state
pub goes_on : (rules : List Pair) (words : List (List ℕ)) (state beyond : ℕ) (xs ys : List ℕ) → NoneEnds rules (word words state)
    → Gains (IsStepBeyond words state beyond) xs ys → Gains (GoesOn rules words state beyond) xs ys
goes_on rules words state beyond xs ys none gains =
    gains_same (IsStepBeyond words state beyond) (GoesOn rules words state beyond) xs ys (λ next leads. record { open_there = none; leads = leads })
    (λ next goes. goes.leads) gains

pub goes_nowhere : (rules : List Pair) (words : List (List ℕ)) (state beyond : ℕ) (xs : List ℕ) → (¬ NoneEnds rules (word words state))
    → Gains (GoesOn rules words state beyond) xs xs
goes_nowhere rules words state beyond xs some =
    gains_none (GoesOn rules words state beyond) xs (λ next goes. some goes.open_there)

-- the overlaps that are met at the states of a level
pub met_level : (rules : List Pair) (words : List (List ℕ)) (index count read : ℕ) (level : List ℕ) (xs ys : List Overlap)
    → read ≡ length (left_at rules index) + count → AreReached rules words (drop 1 (left_at rules index)) count level
    → Gains (Over (λ (state : ℕ). EndsRead rules index (word words state) read count) level) xs ys
    → Gains (IsMet rules words index count) xs ys
met_level rules words index count read level xs ys sum are gains =
    let Such : ℕ → Overlap → Type 0 = λ state. EndsRead rules index (word words state) read count in
    gains_same (Over Such level) (IsMet rules words index count) xs ys
    (λ one over.
    let P : ℕ → Type 0 = λ k. EndsRead rules index (word words over.state) k count one in
    record { state = over.state; reached = are.each over.state over.among; ends = subst P sum over.is })
    (λ one met.
    let P : ℕ → Type 0 = λ k. EndsRead rules index (word words met.state) k count one in
    record { state = met.state; among = are.all met.state met.reached; is = subst P (sym sum) met.ends }) gains

-- all states of a level were gone over
pub over_all : {A : Type 0} (Such : ℕ → A → Type 0) (states : List ℕ) (count : ℕ) (xs ys : List A) → length states ≤ count
    → Gains (Over Such (take count states)) xs ys → Gains (Over Such states) xs ys
over_all {A} Such states count xs ys done gains =
    let P : List ℕ → Type 0 = λ part. Gains (Over Such part) xs ys in subst P (take_all count states done) gains

-- an overlap that is met after fewer letters
pub record MetBelow (rules : List Pair) (words : List (List ℕ)) (index count : ℕ) (one : Overlap) : Type 0 where
  pub at : ℕ
  pub below : at < count
  pub met : IsMet rules words index at one

-- the states of the level, and the overlaps of the levels before it, which were added
pub record Sweeping (rules : List Pair) (words : List (List ℕ)) (index count : ℕ) (level : List ℕ) (before now : List Overlap) : Type 0 where
  pub are : AreReached rules words (drop 1 (left_at rules index)) count level
  pub gains : Gains (MetBelow rules words index count) before now

pub sweeping_first : (rules : List Pair) (words : List (List ℕ)) (index : ℕ) (level : List ℕ) (xs : List Overlap)
    → AreReached rules words (drop 1 (left_at rules index)) 0 level → Sweeping rules words index 0 level xs xs
sweeping_first rules words index level xs are = record {
  are = are;
  gains = gains_none (MetBelow rules words index 0) xs (λ one met. let below = met.below in let no : ⊥ = omega arith in no);
}

pub sweeping_more : (rules : List Pair) (words : List (List ℕ)) (index count : ℕ) (level next : List ℕ) (xs ys zs : List Overlap)
    → Sweeping rules words index count level xs ys → AreReached rules words (drop 1 (left_at rules index)) (count + 1) next
    → Gains (IsMet rules words index count) ys zs → Sweeping rules words index (count + 1) next xs zs
sweeping_more rules words index count level next xs ys zs sweeping are met = record {
  are = are;
  gains = gains_then (MetBelow rules words index count) (IsMet rules words index count) (MetBelow rules words index (count + 1)) xs ys zs
      sweeping.gains met
      (λ one earlier. record { at = earlier.at; below = let below = earlier.below in omega arith; met = earlier.met })
      (λ one here. record { at = count; below = omega arith; met = here })
      (λ one either.
      elim (cases_lt either.at count) [
        | inl earlier ↦ inl (record { at = either.at; below = earlier; met = either.met })
        | inr late ↦
            let below : either.at < count + 1 = either.below in
            let same : either.at ≡ count = omega arith in
            let P : ℕ → Type 0 = λ k. IsMet rules words index k one in
            inr (subst P same either.met)
      ]);
}

-- where so much was read, on ways of so many letters: the state's word is no longer, and there are more states
pub record IsOnLevel (words : List (List ℕ)) (read count state : ℕ) : Type 0 where
  pub within : state < length words
  pub upto : length (word words state) ≤ read
  pub fewer : count + 1 < length words

module _ {rules : List Pair} {words : List (List ℕ)} (known : AreWordsOf rules words) where
  -- there are more states than letters on the way to one
  reached_bound : (tail : List ℕ) (count state : ℕ) → IsReached rules words tail count state → count + 1 < length words
  reached_bound tail count state reached =
      let longer : count < length (word words state) = reached.longer in
      let within : state < length words = reached.stands.within in
      omega (arith, depth_below words known.are state within)

  -- where a state is left, there are more states than letters on the ways
  pub level_bound : (tail : List ℕ) (count : ℕ) (level : List ℕ) → AreReached rules words tail count level → 0 < length level
      → count + 1 < length words
  level_bound tail count level are some =
      reached_bound tail count (get_or level 0 0) (are.each (get_or level 0 0) (Contains-get_or level 0 0 some))

  pub sweeping_all : (index count : ℕ) (level : List ℕ) (xs ys : List Overlap) → index < length rules → level ≡ []
      → Sweeping rules words index count level xs ys → Gains (IsProper rules index) xs ys
  sweeping_all index count level xs ys within none sweeping =
      gains_same (MetBelow rules words index count) (IsProper rules index) xs ys
      (λ one below. proper_of known index below.at one within below.met)
      (λ one proper.
      let found = met_of known index one proper in
      let at : ℕ = found.0 in
      let met : IsMet rules words index at one = found.1 in
      elim (cases_lt at count) [
        | inl earlier ↦ record { at = at; below = earlier; met = met }
        | inr late ↦
            let sum : at ≡ count + (at - count) = omega arith in
            let P : ℕ → Type 0 = λ k. IsReached rules words (drop 1 (left_at rules index)) k met.state in
            let reached = reached_earlier known (drop 1 (left_at rules index)) count (at - count) met.state (subst P sum met.reached) in
            let Q : List ℕ → Type 0 = λ states. Contains states reached.0 in
            let nowhere : Q [] = subst Q none (sweeping.are.all reached.0 reached.1) in
            absurd (let no : ⊥ = omega (arith, nowhere.1) in no)
      ]) sweeping.gains

  -- where the left side without its first letter is reducible, each proper overlap is composite
  pub all_composite : (index : ℕ) (xs : List Overlap) → (¬ IsIrreducible (OneOf rules) (drop 1 (left_at rules index)))
      → Gains (IsProper rules index) xs xs
  all_composite index xs reducible =
      gains_none (IsProper rules index) xs (λ one proper.
      let found = met_of known index one proper in
      let reached = found.1.reached in
      reducible (irreducible_front rules (drop 1 (left_at rules index)) (take (found.0 - 1) reached.way) reached.irreducible))

  pub level_state : (index count read : ℕ) (level : List ℕ) (i : ℕ) → i < length level
      → read ≡ length (left_at rules index) + count
      → AreReached rules words (drop 1 (left_at rules index)) count level
      → IsOnLevel words read count (get_or level i 0)
  level_state index count read level i in_level sum are =
      let state : ℕ = get_or level i 0 in
      let l : List ℕ = left_at rules index in
      let reached = are.each state (Contains-get_or level i 0 in_level) in
      let fits = ends_length (drop 1 l ++ reached.way) (word words state) reached.stands.longest.ends in
      let short : length (word words state) ≤ read =
      omega (arith, length-append (drop 1 l) reached.way, length-drop 1 l, reached.count_is) in
      record {
        within = reached.stands.within;
        upto = short;
        fewer = reached_bound (drop 1 l) count state reached;
      }
