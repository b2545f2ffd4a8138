-- Rounds by a reduced complete system are never stuck.
use Rattle.std.proofs.Common.{◌≡◌, ℕ, zero, suc, List, [], ◌∷◌, ◌++◌, refl, sym, subst, arith}
use Rattle.std.specs.List.{Contains}
use Rattle.std.proofs.lemmas.Option.{same_Some}
use Rattle.kb_word.specs.Words.{Pair, OneOf}
use Rattle.kb_word.specs.Presentations.{parts_of}
use Rattle.kb_word.specs.Rewriting.{AreDecreasing, IsIrreducible, NormalForm}
use Rattle.kb_word.specs.WordOrders.{Below}
use Rattle.kb_word.specs.declared.presentation.Presentation.{Presentation}
use Rattle.kb_word.specs.declared.word_order.WordOrder.TheVariants.{ShortLex}
use Rattle.kb_diff.specs.Groups.{EachInverts, Group, group_of}
use Rattle.kb_diff.specs.Differences.{HaveDifferences}
use Rattle.kb_diff.specs.Keeping.{Adds, AddsEach, IsFull, and_next, none_left}
use Rattle.kb_diff.specs.declared.grow.Grow.{Grow}
use Rattle.kb_diff.proofs.GroupLemmas.{empty_is_irreducible}
use Rattle.kb_diff.proofs.Growing.{Keeps-contains, Keeps-seen, grows_keeps}
use Rattle.kb_diff.proofs.Places.{have_from_all}
use Rattle.kb_kept.specs.declared.equality.Equality.{Equality}
use Rattle.kb_round.specs.Rounds.{IsRefuted, RefutesBy, ShowsEquality, no_image}
use Rattle.kb_round.specs.Kept.{KeepsReduced}
use Rattle.kb_structure.specs.declared.cert.Cert.{Cert}
use Rattle.kb_structure.specs.declared.cert.Cert.TheVariants.{N4}
use Rattle.kb_system.specs.Completed.{IsReducedSystem}
use Rattle.kb_auto.specs.Kept.{KeepsRounds, Tried}
use Rattle.kb_auto.proofs.KeptEqualities.{rounds_added}

abbrev Words : Type 0
Words = List (List ℕ)

-- ---- the differences of pairs are kept

module _ (group : Group) (most : ℕ) (empty : IsIrreducible (OneOf group.rules) []) where
  one_keeps : (pair : Pair) (old new : Words) (answer : Grow) → Adds group most pair.0 pair.1 old new answer → ¬ IsFull answer
      → (word : List ℕ) → Contains old word → Contains new word
  one_keeps pair old new answer adds room word has =
      Keeps-contains word (grows_keeps most adds.seen old new answer adds.grows room) has

  all_keep : {pairs : List Pair} {old new : Words} → AddsEach group most pairs old new → (word : List ℕ) → Contains old word → Contains new word
  all_keep none_left word has = has
  all_keep (and_next {pair = pair} {old = old} {between = between} answer adds room rest) word has =
      all_keep rest word (one_keeps pair old between answer adds room word has)

  one_has : (pair : Pair) (old new : Words) (answer : Grow) → Adds group most pair.0 pair.1 old new answer → ¬ IsFull answer
      → Contains old [] → HaveDifferences group new pair.0 pair.1
  one_has pair old new answer adds room has =
      let keeps = grows_keeps most adds.seen old new answer adds.grows room in
      have_from_all group pair.0 pair.1 adds.count adds.seen adds.are_differences (adds.all room) new (Keeps-contains [] keeps has) empty
      (Keeps-seen keeps)

  -- the differences of each pair are kept
  all_have : {pairs : List Pair} {old new : Words} → AddsEach group most pairs old new → Contains old [] → (pair : Pair) → OneOf pairs pair
      → HaveDifferences group new pair.0 pair.1
  all_have none_left has pair one = absurd (cc one.1)
  all_have (and_next {pair = first} {rest = rest} {old = old} {between = between} {new = new} answer adds room more) has pair (zero, is) =
      let P : Pair → Type 0 = λ p. HaveDifferences group new p.0 p.1 in
      let mine = one_has first old between answer adds room has in
      subst P (same_Some first pair is) (λ place d positive difference. all_keep more d (mine place d positive difference))
  all_have (and_next {pair = first} {old = old} {between = between} answer adds room more) has pair (suc index, is) =
      all_have more (one_keeps first old between answer adds room [] has) pair (index, is)

among : (rules more : List Pair) (rule : Pair) → OneOf rules rule → OneOf (rules ++ more) rule
among [] more rule one = absurd (cc one.1)
among (first ∷ rules) more rule (zero, is) = (zero, is)
among (first ∷ rules) more rule (suc index, is) =
    let later = among rules more rule (index, is) in (suc later.0, later.1)

-- ---- what is kept of a reduced complete system

has_empty : Contains {X = List ℕ} ([] ∷ []) []
has_empty = (0, omega arith, refl)

pub keeps_reduced : (tried : Tried) (rounds : List Equality) (words : Words) → EachInverts tried.presentation.n tried.presentation.inv
    → tried.presentation.order ≡ ShortLex → AreDecreasing (Below tried.presentation.order) tried.rules
    → IsReducedSystem (parts_of tried.presentation) tried.rules → KeepsRounds tried rounds words
    → KeepsReduced tried.presentation tried.rules words
keeps_reduced tried rounds words inverts shortlex decreasing reduced keeps =
    let group = group_of tried.presentation tried.rules in
    let empty = empty_is_irreducible tried.presentation.order tried.rules decreasing in
    let added = rounds_added tried keeps in
    record {
      group = inverts;
      shortlex = shortlex;
      reduced = reduced;
      empty = all_keep group tried.most empty added [] has_empty;
      kept = λ rule one. all_have group tried.most empty added has_empty rule (among tried.rules _ rule one);
    }

-- ---- the equality of a round

-- a certificate by a reduced complete system is of the kind N4
abbrev pub LackImages : Type 0
LackImages = (presentation : Presentation) (rules : List Pair) (words : Words) (limit : ℕ) (cert : Cert)
    → KeepsReduced presentation rules words → IsRefuted presentation rules words limit cert
    → (x : ℕ) × (u : List ℕ) × (cert ≡ N4 x u)

-- its word is irreducible
abbrev pub AreIrreducible : Type 0
AreIrreducible = (presentation : Presentation) (rules : List Pair) (words : Words) (limit x : ℕ) (u : List ℕ)
    → KeepsReduced presentation rules words → IsRefuted presentation rules words limit (N4 x u) → IsIrreducible (OneOf rules) u

-- and it has another difference from its image
abbrev pub HaveMore : Type 0
HaveMore = (presentation : Presentation) (rules : List Pair) (words : Words) (limit x : ℕ) (u v : List ℕ)
    → KeepsReduced presentation rules words → IsRefuted presentation rules words limit (N4 x u)
    → NormalForm rules (u ++ x ∷ []) v → ¬ HaveDifferences (group_of presentation rules) words u v

by_image : (rules : List Pair) (x : ℕ) (u : List ℕ) (equality : Equality) → ShowsEquality rules (N4 x u) equality
    → (equality.u ≡ u) × NormalForm rules (u ++ x ∷ []) equality.v
by_image rules x u _ (no_image normal) = (refl, normal)

-- the words of a failed round's equality are irreducible, and have another difference
pub brings_more : LackImages → AreIrreducible → HaveMore → (presentation : Presentation) (rules : List Pair) (words : Words) (limit : ℕ) (equality : Equality)
    → KeepsReduced presentation rules words → RefutesBy presentation rules words limit equality
    → ¬ (IsIrreducible (OneOf rules) equality.u → IsIrreducible (OneOf rules) equality.v
    → HaveDifferences (group_of presentation rules) words equality.u equality.v)
brings_more lack irreducible more presentation rules words limit equality keeps refutes nothing =
    let kind = lack presentation rules words limit refutes.cert keeps refutes.refuted in
    let x = kind.0 in
    let u = kind.1 in
    let R : Cert → Type 0 = λ cert. IsRefuted presentation rules words limit cert in
    let S : Cert → Type 0 = λ cert. ShowsEquality rules cert equality in
    let refuted = subst R kind.2 refutes.refuted in
    let image = by_image rules x u equality (subst S kind.2 refutes.shows) in
    let I : List ℕ → Type 0 = λ w. IsIrreducible (OneOf rules) w in
    let D : List ℕ → Type 0 = λ w. HaveDifferences (group_of presentation rules) words w equality.v in
    let first = subst I (sym image.0) (irreducible presentation rules words limit x u keeps refuted) in
    more presentation rules words limit x u equality.v keeps refuted image.1 (subst D image.0 (nothing first image.1.irreducible))
