-- The certificates against the automata of the differences of a reduced complete system.
use Rattle.std.proofs.Common.{◌≡◌, ◌↔◌, ℕ, List, [], ◌∷◌, ◌++◌, refl, sym, subst}
use Rattle.kb_word.specs.Words.{Pair, OneOf}
use Rattle.kb_word.specs.WordOrders.{Below}
use Rattle.kb_word.specs.Relations.{IsOver}
use Rattle.kb_word.specs.Rewriting.{IsIrreducible, NormalForm}
use Rattle.kb_word.specs.declared.presentation.Presentation.{Presentation}
use Rattle.kb_word.specs.declared.word_order.WordOrder.{WordOrder}
use Rattle.kb_fsa.specs.Language.{Automaton}
use Rattle.kb_fsa.specs.declared.alphabet.Alphabet.TheVariants.{Plain}
use Rattle.kb_diff.specs.Groups.{group_of}
use Rattle.kb_diff.specs.Differences.{HaveDifferences}
use Rattle.kb_reduced.specs.Reduced.{IsCompleteSystem, IsLeastWord}
use Rattle.kb_structure.specs.Structure.{Structure, AreOverGenerators}
use Rattle.kb_structure.specs.StructureOf.{structure_of}
use Rattle.kb_structure.specs.Certificates.{ImageNotLeast, WordWithoutImage}
use Rattle.kb_structure.specs.declared.cert.Cert.{Cert}
use Rattle.kb_structure.specs.declared.cert.Cert.TheVariants.{N4}
use Rattle.kb_axioms.specs.Answered.{checked_in}
use Rattle.kb_axioms.specs.Checked.{IsFirstCertificate}
use Rattle.kb_axioms.specs.Checked.IsFirstCertificate.{n1, n2, n4, n5, n6, n7, n8}
use Rattle.kb_axioms.proofs.Presented as automata
use Rattle.kb_round.specs.Rounds.{AreMadeOf, IsRefuted}
use Rattle.kb_round.specs.Kept.{KeepsReduced}
use Rattle.kb_round.proofs.Elements.{IsCompleteGroup, relations}
use Rattle.kb_round.proofs.SoundStructures.{IsSound, no_greater_image, no_missing_extension, no_pair_outside, no_prefix_refused, no_relation_broken, no_two_images}
use Rattle.kb_round.proofs.MadeStructures.{accepts_irreducible, image_of_kept, made_sound}

-- the relations are over the generators
relations_over : (presentation : Presentation) (relation : Pair) → OneOf (relations presentation) relation
    → IsOver presentation.n relation.0 × IsOver presentation.n relation.1
relations_over presentation =
    automata.over presentation
    (record { alphabet = Plain presentation.n; table = record { initial = 0; rows = []; accepting = [] } }) [] refl

-- a reduced complete system of a group is complete, and its irreducible words are the least ones
pub complete_group : {presentation : Presentation} {rules : List Pair} {words : List (List ℕ)} → KeepsReduced presentation rules words
    → IsCompleteSystem (Below presentation.order) (relations presentation) rules
    → ((w : List ℕ) → IsIrreducible (OneOf rules) w ↔ IsLeastWord (Below presentation.order) (relations presentation) w)
    → IsCompleteGroup presentation rules
complete_group {presentation = presentation} keeps complete least =
    record { each = keeps.group; over = relations_over presentation; complete = complete; least = least }

module _ (presentation : Presentation) (rules : List Pair) (words : List (List ℕ)) (limit : ℕ)
    (keeps : KeepsReduced presentation rules words) (is : IsCompleteGroup presentation rules) where
  module _ (acceptor : Automaton) (multipliers : List Automaton)
      (made : AreMadeOf (group_of presentation rules) words acceptor multipliers) where
    abbrev structure : Structure
    structure = structure_of presentation.order (relations presentation) acceptor multipliers

    sound : IsSound structure
    sound = made_sound presentation rules is keeps.shortlex keeps.reduced words keeps.empty keeps.kept acceptor multipliers
        made.accepts.alphabet made.accepts.language made.multiply

    over : AreOverGenerators structure
    over = automata.over presentation acceptor multipliers made.accepts.alphabet

    -- the first certificate is a word without image
    lacks_image : (cert : Cert) → IsFirstCertificate (checked_in presentation acceptor multipliers limit) cert
        → (x : ℕ) × (u : List ℕ) × (cert ≡ N4 x u)
    lacks_image cert (n1 least) =
        absurd (no_prefix_refused structure sound _ (least presentation.order (relations presentation)).holds)
    lacks_image cert (n2 passes first) =
        absurd (no_pair_outside structure sound _ _ _ (first presentation.order (relations presentation)).least.holds)
    lacks_image cert (n4 {x} {u} passes first few) = (x, u, refl)
    lacks_image cert (n5 passes first) =
        absurd (no_two_images structure sound _ _ _ _ (first presentation.order (relations presentation)).least.holds)
    lacks_image cert (n6 passes first) =
        absurd (no_missing_extension structure sound _ _ (first presentation.order (relations presentation)).least.holds)
    lacks_image cert (n7 {x} {u} {v} passes first) =
        let P : WordOrder → Type 0 = λ order. ImageNotLeast (structure_of order (relations presentation) acceptor multipliers) x u v in
        absurd (no_greater_image structure sound x u v (subst P (sym keeps.shortlex) (first (relations presentation)).least.holds))
    lacks_image cert (n8 passes at) = absurd (no_relation_broken structure sound over _ _ _ _ (at.holds.broken presentation.order))

    -- that is what a certificate N4 says
    without_image : (cert : Cert) (x : ℕ) (u : List ℕ) → cert ≡ N4 x u
        → IsFirstCertificate (checked_in presentation acceptor multipliers limit) cert → WordWithoutImage structure x u
    without_image cert x u same (n1 least) = absurd (cc same)
    without_image cert x u same (n2 passes first) = absurd (cc same)
    without_image cert x u same (n4 {x = y} {u = v} passes first few) =
        let letter : y ≡ x = cc same in
        let word : v ≡ u = cc same in
        let P : ℕ → Type 0 = λ z. WordWithoutImage structure z u in
        let Q : List ℕ → Type 0 = λ w. WordWithoutImage structure y w in
        subst P letter (subst Q word (first presentation.order (relations presentation)).least.holds)
    without_image cert x u same (n5 passes first) = absurd (cc same)
    without_image cert x u same (n6 passes first) = absurd (cc same)
    without_image cert x u same (n7 passes first) = absurd (cc same)
    without_image cert x u same (n8 passes at) = absurd (cc same)

  pub refuted_lacks_image : (cert : Cert) → IsRefuted presentation rules words limit cert → (x : ℕ) × (u : List ℕ) × (cert ≡ N4 x u)
  refuted_lacks_image cert refuted = lacks_image refuted.acceptor refuted.multipliers refuted.made cert refuted.first

  module _ (x : ℕ) (u : List ℕ) (refuted : IsRefuted presentation rules words limit (N4 x u)) where
    lacking : WordWithoutImage (structure refuted.acceptor refuted.multipliers refuted.made) x u
    lacking = without_image refuted.acceptor refuted.multipliers refuted.made (N4 x u) x u refl refuted.first

    -- the word is irreducible
    pub lacking_irreducible : IsIrreducible (OneOf rules) u
    lacking_irreducible =
        accepts_irreducible presentation rules is keeps.shortlex keeps.reduced words keeps.empty keeps.kept
        refuted.acceptor refuted.multipliers refuted.made.accepts.alphabet refuted.made.accepts.language refuted.made.multiply
        u lacking.accepted

    -- and some difference of it and the normal form of its product isn't kept
    pub lacking_difference : (v : List ℕ) → NormalForm rules (u ++ x ∷ []) v
        → ¬ HaveDifferences (group_of presentation rules) words u v
    lacking_difference v normal have =
        lacking.no_image v
        (image_of_kept presentation rules is keeps.shortlex keeps.reduced words keeps.empty keeps.kept
        refuted.acceptor refuted.multipliers refuted.made.accepts.alphabet refuted.made.accepts.language refuted.made.multiply
        x u v lacking.generator lacking.accepted normal have)
