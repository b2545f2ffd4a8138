-- The origins of relations, one by one.
use Rattle.std.proofs.Common.{◌≡◌, ℕ, zero, suc, ◌<◌, ◌+◌, List, [], ◌∷◌, ◌++◌, length, take, get_or, sym, ap, ◌∙◌, subst, arith}
use Rattle.std.specs.List.{Contains}
use Rattle.std.proofs.lemmas.Option.{slice_get-get_or}
use Rattle.kb_machine.specs.Lines.{IsPairOf}
use Rattle.kb_book.specs.Normal.{HasPair}
use Rattle.kb_book.proofs.Lists.{numbered-more}
use Rattle.kb_word.specs.Words.{Pair}
use Rattle.kb_machine.specs.declared.origin.Origin.{Origin}
use Rattle.kb_machine.specs.declared.origin.Origin.TheVariants.{Relation, Overlap, Killed, Shortened}
use Rattle.kb_machine.specs.States.{relation_origins}

origins_suc : (k : ℕ) (pairs : List Pair) (i : ℕ) → i < length pairs
    → relation_origins k (take (suc i) pairs) ≡ relation_origins k (take i pairs) ++ Relation (k + i) ∷ []
origins_suc k [] i within = absurd (omega arith)
origins_suc k (pair ∷ pairs) zero within =
    let same : k ≡ k + 0 = omega arith in ap (λ (n : ℕ). Relation n ∷ []) same
origins_suc k (pair ∷ pairs) (suc i) within =
    let same : suc k + i ≡ k + suc i = omega arith in
    let rest = origins_suc (suc k) pairs i (omega arith) in
    ap (λ (l : List Origin). Relation k ∷ l) (rest ∙ ap (λ (n : ℕ). relation_origins (suc k) (take i pairs) ++ Relation n ∷ []) same)

-- one more relation
pub origins_more : (k : ℕ) (pairs : List Pair) (i number : ℕ) → i < length pairs → number ≡ k + i
    → relation_origins k (take (i + 1) pairs) ≡ relation_origins k (take i pairs) ++ Relation number ∷ []
origins_more k pairs i number within is =
    let one : i + 1 ≡ suc i = omega arith in
    ap (λ (n : ℕ). relation_origins k (take n pairs)) one ∙ origins_suc k pairs i within
    ∙ ap (λ (n : ℕ). relation_origins k (take i pairs) ++ Relation n ∷ []) (sym is)

-- each of them is that of a relation
pub origin_listed : (k : ℕ) (pairs : List Pair) (origin : Origin) → Contains (relation_origins k pairs) origin
    → (index : ℕ) × (index < length pairs) × (origin ≡ Relation (k + index))
origin_listed k [] origin (i, within, same) = absurd (omega arith)
origin_listed k (pair ∷ pairs) origin (zero, within, same) =
    let zeroth : k ≡ k + 0 = omega arith in
    (0, omega arith, sym same ∙ ap (λ (n : ℕ). Relation n) zeroth)
origin_listed k (pair ∷ pairs) origin (suc i, within, same) =
    let later = origin_listed (suc k) pairs origin (i, omega arith, same) in
    let next : suc k + later.0 ≡ k + suc later.0 = omega arith in
    let fits : suc later.0 < length (pair ∷ pairs) = omega (arith, later.1) in
    (suc later.0, fits, later.2 ∙ ap (λ (n : ℕ). Relation n) next)

-- the same one, where there are more rules
pub pair_more : (relations rules more : List Pair) (origin : Origin) (pair : Pair) → IsPairOf relations rules origin pair
    → IsPairOf relations (rules ++ more) origin pair
pair_more relations rules more (Relation k) pair is = is
pair_more relations rules more (Overlap i j place) pair is = record {
  first = is.first;
  second = is.second;
  overlap = record {
    is_first = numbered-more rules more i is.first is.overlap.is_first;
    is_second = numbered-more rules more j is.second is.overlap.is_second;
    overlaps = is.overlap.overlaps;
    proper = is.overlap.proper;
  };
  is = is.is;
}
pair_more relations rules more (Killed k) pair is = numbered-more rules more k pair is
pair_more relations rules more (Shortened k) pair is = numbered-more rules more k pair is

-- the relations' origins name the relations
pub relation_has_pair : (relations rules : List Pair) (origin : Origin) → Contains (relation_origins 1 relations) origin
    → HasPair relations rules origin
relation_has_pair relations rules origin contained =
    let listed = origin_listed 1 relations origin contained in
    let index = listed.0 in
    let next : 1 + index ≡ suc index = omega arith in
    let P : Origin → Type 0 = HasPair relations rules in
    let d : Pair = ([], []) in
    let named : HasPair relations rules (Relation (suc index)) = (get_or relations index d, slice_get-get_or relations index d listed.1) in
    subst P (sym (listed.2 ∙ ap (λ (n : ℕ). Relation n) next)) named
