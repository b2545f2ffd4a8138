-- The start: all relations are pending, and nothing else is there.
use Rattle.std.proofs.Common.{◌≡◌, ℕ, zero, suc, ◌+◌, ◌≤◌, List, [], ◌∷◌, Some, sym, ap, subst, ◌∙◌, inl, inr, arith}
use Rattle.std.specs.Prelude.{slice_get}
use Rattle.std.specs.List.{AllPairs, Contains}
use Rattle.std.proofs.lemmas.List.Kept.{AllPairs-cons}
use Rattle.kb_word.specs.Words.{Pair}
use Rattle.kb_word.proofs.PathLemmas.{congruent_sides}
use Rattle.kb_machine.specs.Lines.{replaced}
use Rattle.kb_machine.specs.declared.origin.Origin.{Origin}
use Rattle.kb_machine.specs.declared.origin.Origin.TheVariants.{Relation}
use Rattle.kb_machine.specs.States.{Problem, relation_origins, start}
use Rattle.kb_machine.proofs.Lists.{contains_head, contains_tail, contains_cons_cases, all_contained}
use Rattle.kb_machine.proofs.Invariant.{AreApart, MayBePending, Invariant}

-- the origin is that of a relation, numbered from k on
record IsFrom (k : ℕ) (origin : Origin) : Type 0 where
  pub number : ℕ
  pub from : k ≤ number
  pub is : origin ≡ Relation number

relation_pending : (k : ℕ) (pairs : List Pair) (index : ℕ) (pair : Pair) → slice_get pairs index ≡ Some pair
    → Contains (relation_origins k pairs) (Relation (k + index))
relation_pending k [] index pair e = absurd (cc e)
relation_pending k (one ∷ pairs) zero pair e =
    let same : k ≡ k + 0 = omega arith in
    let P : ℕ → Type 0 = λ j. Contains (relation_origins k (one ∷ pairs)) (Relation j) in
    subst P same (contains_head (Relation k) (relation_origins (suc k) pairs))
relation_pending k (one ∷ pairs) (suc index) pair e =
    let same : suc k + index ≡ k + suc index = omega arith in
    let P : ℕ → Type 0 = λ j. Contains (relation_origins k (one ∷ pairs)) (Relation j) in
    subst P same (contains_tail (Relation k) (relation_origins (suc k) pairs) (Relation (suc k + index))
    (relation_pending (suc k) pairs index pair e))

pending_relation : (k : ℕ) (pairs : List Pair) (origin : Origin) → Contains (relation_origins k pairs) origin
    → IsFrom k origin
pending_relation k [] origin has = let within = has.1 in absurd (omega arith)
pending_relation k (one ∷ pairs) origin has =
    elim (contains_cons_cases (Relation k) (relation_origins (suc k) pairs) origin has) [
      | inl here ↦ record { number = k; from = omega arith; is = sym here }
      | inr rest ↦
          let found = pending_relation (suc k) pairs origin rest in
          let from = found.from in
          record { number = found.number; from = omega arith; is = found.is }
    ]

-- a later relation's origin is another
apart_later : (k : ℕ) (origin : Origin) → IsFrom (suc k) origin → AreApart (Relation k) origin
apart_later k origin later (j, inl both) =
    let from = later.from in
    let first : k ≡ j = cc both.0 in
    let second : later.number ≡ j = cc (later.is, both.1) in
    absurd (omega arith)
apart_later k origin later (j, inr both) = absurd (cc both.0)

relations_apart : (k : ℕ) (pairs : List Pair) → AllPairs AreApart (relation_origins k pairs)
relations_apart k [] = λ i j d less within. absurd (omega arith)
relations_apart k (one ∷ pairs) =
    AllPairs-cons AreApart (Relation k) (relation_origins (suc k) pairs)
    (all_contained (AreApart (Relation k)) (relation_origins (suc k) pairs)
    (λ origin has. apart_later k origin (pending_relation (suc k) pairs origin has)))
    (relations_apart (suc k) pairs)

none_at : {X : Type 0} {P : Type 0} (index : ℕ) (x : X) → slice_get [] index ≡ Some x → P
none_at index x e = absurd (cc e)

first_relation : (pairs : List Pair) (index : ℕ) (pair : Pair) → slice_get pairs index ≡ Some pair
    → Contains (relation_origins 1 pairs) (Relation (suc index))
first_relation pairs index pair e =
    let same : 1 + index ≡ suc index = omega arith in
    let P : ℕ → Type 0 = λ j. Contains (relation_origins 1 pairs) (Relation j) in
    subst P same (relation_pending 1 pairs index pair e)

-- what is kept holds at the start
pub start_kept : (problem : Problem) → Invariant problem (start problem)
start_kept problem = record {
  kept = λ pair one. congruent_sides pair
      (inr (Relation (suc one.0), first_relation problem.relations one.0 pair one.1, one.1));
  justified = record {
    follows = λ index line is_line. none_at index line is_line;
    decreases = λ index line is_line. none_at index line is_line;
    relations_once = λ index other k line another is_line is_another h g. none_at index line is_line;
    replaced_once = λ index other k line another is_line is_another h g. none_at index line is_line;
  };
  factors = λ pair one. none_at one.0 pair one.1;
  few = omega arith;
  ascending = λ i j d less within. absurd (omega arith);
  numbers = λ k d within. absurd (omega arith);
  waiting = λ origin has.
      let P : Origin → Type 0 = λ one. MayBePending [] one in
      let found = pending_relation 1 problem.relations origin has in
      subst P (sym found.is) tt;
  apart = relations_apart 1 problem.relations;
  gone = λ origin k has is.
      let found = pending_relation 1 problem.relations origin has in
      let none : replaced (Relation found.number) ≡ Some k = ap replaced (sym found.is) ∙ is in
      absurd (cc none);
  halted = tt;
}
