-- A group has one reduced complete system, as two automata.
use Rattle.std.proofs.Common.{◌≡◌, ◌∙◌, ℕ, List, length, sym, ap, subst, arith}
use Rattle.kb_word.specs.Words.{Pair as Sides}
use Rattle.kb_word.specs.Presentations.{PresentationParts, parts_of}
use Rattle.kb_word.specs.Relations.{relations_of}
use Rattle.kb_word.specs.declared.presentation.Presentation.{Presentation}
use Rattle.kb_fsa.specs.declared.alphabet.Alphabet.{Alphabet}
use Rattle.kb_fsa.specs.Language.{AcceptsText, Automaton, IsTextOf, generators}
use Rattle.kb_fsa.specs.Padding.{IsPadded, padded}
use Rattle.kb_fsa.specs.Table.{state_after}
use Rattle.kb_fsa.proofs.Lookups.{accepting_positive}
use Rattle.kb_fsamin.proofs.Uniqueness.{one_canonical}
use Rattle.kb_cmd_structures.specs.ReducedSystem.{IsReducedSystem, IsSystemOf}

module _ {n : ℕ} {relations : List Sides} where
  module _ {minred second minkb more : Automaton} (one : IsReducedSystem n relations minred minkb)
      (other : IsReducedSystem n relations second more) where
    word_kept : (w : List ℕ) → AcceptsText minred w → AcceptsText second w
    word_kept w accepts = (other.left_sides w).1 ((one.left_sides w).0 accepts)

    pair_kept : (text : List ℕ) → AcceptsText minkb text → AcceptsText more text
    pair_kept text accepts =
        let minkb_is = one.minkb_is in
        let positive = accepting_positive minkb.table (state_after minkb.table text) accepts in
        let Of : Alphabet → Type 0 = λ alphabet. IsTextOf alphabet text in
        let is_padded : IsPadded n text =
        subst Of one.pairs (minkb_is.texts text (λ none. omega arith)) in
        let u = is_padded.first in
        let v = is_padded.second in
        let At : ℕ → Type 0 = λ k. AcceptsText minkb (padded k u v) in
        let Text : List ℕ → Type 0 = λ t. AcceptsText minkb t in
        let read : AcceptsText minkb (padded (generators minkb.alphabet) u v) =
        subst At (sym (ap generators one.pairs)) (subst Text is_padded.is_text accepts) in
        let rule = (one.rules u v is_padded.first_over is_padded.second_over).0 read in
        let again = (other.rules u v is_padded.first_over is_padded.second_over).1 rule in
        let Also : ℕ → Type 0 = λ k. AcceptsText more (padded k u v) in
        let Other : List ℕ → Type 0 = λ t. AcceptsText more t in
        subst Other (sym is_padded.is_text) (subst Also (ap generators other.pairs) again)

  pub one_system : {minred second minkb more : Automaton}
      → IsReducedSystem n relations minred minkb → IsReducedSystem n relations second more
      → (minred ≡ second) × (minkb ≡ more)
  one_system {minred} {second} {minkb} {more} one other = (
    one_canonical minred second one.minred_is other.minred_is (one.words ∙ sym other.words)
        one.minred_is_canonical other.minred_is_canonical
        (λ w. (word_kept one other w, word_kept other one w)),
    one_canonical minkb more one.minkb_is other.minkb_is (one.pairs ∙ sym other.pairs)
        one.minkb_is_canonical other.minkb_is_canonical
        (λ text. (pair_kept one other text, pair_kept other one text)),
  )

-- the system of one presentation is that of another one with the same parts
pub system_of_parts : (one other : Presentation) (minred minkb : Automaton)
    → parts_of one ≡ parts_of other → IsSystemOf one minred minkb → IsSystemOf other minred minkb
system_of_parts one other minred minkb parts is =
    let n : one.n ≡ other.n =
    sym one.is_presentation.one_name_each
    ∙ (ap (λ (p : PresentationParts). length p.names) parts
    ∙ other.is_presentation.one_name_each) in
    let relations : relations_of one.inv one.eqs ≡ relations_of other.inv other.eqs =
    ap (λ (p : PresentationParts). relations_of p.inverses p.equations) parts in
    let Of : ℕ → Type 0 = λ k. IsReducedSystem k (relations_of other.inv other.eqs) minred minkb in
    let By : List Sides → Type 0 = λ r. IsReducedSystem one.n r minred minkb in
    subst Of n (subst By relations is)
