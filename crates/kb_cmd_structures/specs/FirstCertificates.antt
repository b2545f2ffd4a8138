-- Automata have one first certificate, and the group's own have none.
use Rattle.std.proofs.Common.{◌≡◌, ◌∙◌, inl, inr, ℕ, zero, suc, ◌<◌, ◌≤◌, List, sym, ap, subst, arith}
use Rattle.std.proofs.lemmas.Bool.{cases_order}
use Rattle.std.proofs.lemmas.Option.{same_Some, slice_get_within}
use Rattle.kb_word.specs.Words.{Pair, Less}
use Rattle.kb_word.specs.ShortlexLaws.{shortlex_total}
use Rattle.kb_word.specs.declared.word_order.WordOrder.TheVariants.{ShortLex}
use Rattle.kb_leastpair.specs.LeastPair.{IsLeastWord, IsLeastPair}
use Rattle.kb_structure.specs.Structure.{Structure, AreOverGenerators, Follows, IsAutomaticStructure}
use Rattle.kb_structure.specs.Certificates.{PrefixNotAccepted, PairOutsideAcceptor, PairOfDifferentElements, WordWithoutImage, TwoImages, MissingExtension, ImageNotLeast, RelationBroken}
use Rattle.kb_structure.specs.declared.cert.Cert.{Cert}
use Rattle.kb_structure.specs.declared.cert.Cert.TheVariants.{N1, N2, N3, N4, N5, N6, N7, N8}
use Rattle.kb_certificates.specs.First.{IsFirstWord, IsFirstPair, IsFirstTriple, IsLeastTriple}
use Rattle.kb_relations.specs.Acts.{AtNumber, IsFirstBroken}
use Rattle.kb_relations.specs.Images.{HasUniqueImages}
use Rattle.kb_relations.proofs.UniqueImages.{leads_to_one}
use Rattle.kb_axioms.specs.Answered.{IsFirstOfAll, of_automata, of_elements}
use Rattle.kb_axioms.specs.Checked.{Checked, IsFirstCertificate, PassesPrefixes, PassesPairs, PassesImages, PassesSingle, PassesExtensions, PassesLeast, PassesRelations, own_structure}
use Rattle.kb_axioms.specs.Checked.IsFirstCertificate.{n1, n2, n4, n5, n6, n7, n8}

-- ---- what is least or first is one

-- of two words of which neither is less, both are one
neither_less : (u v : List ℕ) → ¬ Less u v → ¬ Less v u → u ≡ v
neither_less u v not_less not_greater = elim (shortlex_total u v) [
  | inl same ↦ same
  | inr (inl less) ↦ absurd (not_less less)
  | inr (inr greater) ↦ absurd (not_greater greater)
]

-- of two numbers of which neither is less, both are one
pub neither_lower : (x y : ℕ) → ¬ (x < y) → ¬ (y < x) → x ≡ y
neither_lower x y not_lower not_higher = elim (cases_order x y) [
  | inl same ↦ same
  | inr (inl lower) ↦ absurd (not_lower lower)
  | inr (inr higher) ↦ absurd (not_higher higher)
]

module _ {Holds : List ℕ → Type 0} where
  one_least_word : {u v : List ℕ} → IsLeastWord Holds u → IsLeastWord Holds v → u ≡ v
  one_least_word {u} {v} one other =
      neither_less u v (other.least u one.holds) (one.least v other.holds)

module _ {Holds : List ℕ → List ℕ → Type 0} {u v first second : List ℕ}
    (one : IsLeastPair Holds u v) (other : IsLeastPair Holds first second) where
  one_least_first : u ≡ first
  one_least_first =
      neither_less u first (other.least_first u v one.holds)
      (one.least_first first second other.holds)

  one_least_second : v ≡ second
  one_least_second =
      let same = one_least_first in
      let there : Holds first v = subst (λ w. Holds w v) same one.holds in
      let here : Holds u second = subst (λ w. Holds w second) (sym same) other.holds in
      neither_less v second (other.least_second v there) (one.least_second second here)

module _ {Holds : List ℕ → List ℕ → List ℕ → Type 0} {u v w a b c : List ℕ}
    (one : IsLeastTriple Holds u v w) (other : IsLeastTriple Holds a b c) where
  one_triple_first : u ≡ a
  one_triple_first =
      neither_less u a (other.least_first u v w one.holds) (one.least_first a b c other.holds)

  one_triple_second : v ≡ b
  one_triple_second =
      let same = one_triple_first in
      let there : Holds a v w = subst (λ z. Holds z v w) same one.holds in
      let here : Holds u b c = subst (λ z. Holds z b c) (sym same) other.holds in
      neither_less v b (other.least_second v w there) (one.least_second b c here)

  one_triple_third : w ≡ c
  one_triple_third =
      let first = one_triple_first in
      let second = one_triple_second in
      let there : Holds a b w =
      subst (λ z. Holds z b w) first (subst (λ z. Holds u z w) second one.holds) in
      let here : Holds u v c =
      subst (λ z. Holds z v c) (sym first) (subst (λ z. Holds a z c) (sym second) other.holds) in
      neither_less w c (other.least_third w there) (one.least_third c here)

module _ {Certificate : ℕ → List ℕ → Type 0} {x y : ℕ} {u v : List ℕ}
    (one : IsFirstWord Certificate x u) (other : IsFirstWord Certificate y v) where
  one_word_letter : x ≡ y
  one_word_letter =
      neither_lower x y (λ lower. other.no_earlier x u lower one.least.holds)
      (λ higher. one.no_earlier y v higher other.least.holds)

  one_first_word : u ≡ v
  one_first_word =
      let Least : ℕ → Type 0 = λ z. IsLeastWord (Certificate z) u in
      one_least_word (subst Least one_word_letter one.least) other.least

module _ {Certificate : ℕ → List ℕ → List ℕ → Type 0} {x y : ℕ} {u v first second : List ℕ}
    (one : IsFirstPair Certificate x u v) (other : IsFirstPair Certificate y first second) where
  one_pair_letter : x ≡ y
  one_pair_letter =
      neither_lower x y (λ lower. other.no_earlier x u v lower one.least.holds)
      (λ higher. one.no_earlier y first second higher other.least.holds)

  there_least : IsLeastPair (Certificate y) u v
  there_least =
      let Least : ℕ → Type 0 = λ z. IsLeastPair (Certificate z) u v in
      subst Least one_pair_letter one.least

  one_pair : (make : ℕ → List ℕ → List ℕ → Cert) → make x u v ≡ make y first second
  one_pair make =
      ap (λ z. make z u v) one_pair_letter
      ∙ (ap (λ z. make y z v) (one_least_first there_least other.least)
      ∙ ap (λ z. make y first z) (one_least_second there_least other.least))

module _ {Certificate : ℕ → List ℕ → List ℕ → List ℕ → Type 0} {x y : ℕ} {u v w a b c : List ℕ}
    (one : IsFirstTriple Certificate x u v w) (other : IsFirstTriple Certificate y a b c) where
  one_triple_letter : x ≡ y
  one_triple_letter =
      neither_lower x y (λ lower. other.no_earlier x u v w lower one.least.holds)
      (λ higher. one.no_earlier y a b c higher other.least.holds)

  there_triple : IsLeastTriple (Certificate y) u v w
  there_triple =
      let Least : ℕ → Type 0 = λ z. IsLeastTriple (Certificate z) u v w in
      subst Least one_triple_letter one.least

  one_triple : N5 x u v w ≡ N5 y a b c
  one_triple =
      ap (λ z. N5 z u v w) one_triple_letter
      ∙ (ap (λ z. N5 y z v w) (one_triple_first there_triple other.least)
      ∙ (ap (λ z. N5 y a z w) (one_triple_second there_triple other.least)
      ∙ ap (λ z. N5 y a b z) (one_triple_third there_triple other.least)))

-- ---- the kinds in their order

-- the place of a certificate's kind in the order in which they are looked for
abbrev pub place : Cert → ℕ
place (N1 u) = 0
place (N2 x u v) = 1
place (N4 x u) = 2
place (N5 x u v other) = 3
place (N6 x u) = 4
place (N7 x u v) = 5
place (N8 number u a b) = 6
place (N3 x u v) = 7

module _ (checked : Checked) where
  abbrev own : Structure
  own = own_structure checked

  -- there is no certificate of the kinds up to this place, but for the last kind
  abbrev pub Passed : ℕ → Type 0
  Passed zero = PassesPrefixes checked
  Passed (suc zero) = PassesPairs checked
  Passed (suc (suc zero)) = PassesImages checked
  Passed (suc (suc (suc zero))) = PassesSingle checked
  Passed (suc (suc (suc (suc zero)))) = PassesExtensions checked
  Passed (suc (suc (suc (suc (suc zero))))) = PassesLeast checked
  Passed (suc (suc (suc (suc (suc (suc k)))))) = PassesRelations checked

  passed_down : (k : ℕ) → Passed (suc k) → Passed k
  passed_down zero passed = passed.earlier
  passed_down (suc zero) passed = passed.earlier
  passed_down (suc (suc zero)) passed = passed.earlier
  passed_down (suc (suc (suc zero))) passed = passed.earlier
  passed_down (suc (suc (suc (suc zero)))) passed = passed.earlier
  passed_down (suc (suc (suc (suc (suc zero))))) passed = passed.earlier
  passed_down (suc (suc (suc (suc (suc (suc k)))))) passed = passed

  pub passed_below : (top k : ℕ) → k ≤ top → Passed top → Passed k
  passed_below zero k below passed = subst Passed (let is : zero ≡ k = omega (arith, below) in is) passed
  passed_below (suc top) k below passed = elim (cases_order k (suc top)) [
    | inl is ↦ subst Passed (sym is) passed
    | inr (inl less) ↦ passed_below top k (omega (arith, less)) (passed_down top passed)
    | inr (inr more) ↦ absurd (omega (arith, below, more))
  ]

  -- before the first certificate all kinds were passed
  pub passed_before : (cert : Cert) (k : ℕ) → IsFirstOfAll checked cert → k < place cert → Passed k
  passed_before cert k (of_automata (n1 least)) below = absurd (omega (arith, below))
  passed_before cert k (of_automata (n2 passes first)) below =
      passed_below 0 k (omega (arith, below)) passes
  passed_before cert k (of_automata (n4 passes first few)) below =
      passed_below 1 k (omega (arith, below)) passes
  passed_before cert k (of_automata (n5 passes first)) below =
      passed_below 2 k (omega (arith, below)) passes
  passed_before cert k (of_automata (n6 passes first)) below =
      passed_below 3 k (omega (arith, below)) passes
  passed_before cert k (of_automata (n7 passes first)) below =
      passed_below 4 k (omega (arith, below)) passes
  passed_before cert k (of_automata (n8 passes at)) below =
      passed_below 5 k (omega (arith, below)) passes
  passed_before cert k (of_elements passes first) below =
      passed_below 6 k (omega (arith, below)) passes

  -- and its own kind is not, unless that is the last one
  pub not_passed : (cert : Cert) → IsFirstOfAll checked cert → place cert < 7 → ¬ Passed (place cert)
  not_passed cert (of_automata (n1 least)) early passed =
      passed.prefixes ShortLex checked.relations _ (least ShortLex checked.relations).holds
  not_passed cert (of_automata (n2 passes first)) early passed =
      passed.inside ShortLex checked.relations _ _ _ (first ShortLex checked.relations).least.holds
  not_passed cert (of_automata (n4 passes first few)) early passed =
      let certificate = (first ShortLex checked.relations).least.holds in
      let image = passed.images ShortLex checked.relations _ _ certificate.generator
      certificate.accepted in
      certificate.no_image image.0 image.1
  not_passed cert (of_automata (n5 passes first)) early passed =
      passed.single ShortLex checked.relations _ _ _ _
      (first ShortLex checked.relations).least.holds
  not_passed cert (of_automata (n6 passes first)) early passed =
      passed.extensions ShortLex checked.relations _ _
      (first ShortLex checked.relations).least.holds
  not_passed cert (of_automata (n7 passes first)) early passed =
      passed.least checked.relations _ _ _ (first checked.relations).least.holds
  not_passed cert (of_automata (n8 passes at)) early passed =
      let broken = at.holds.broken ShortLex in
      let relation = broken.relation in
      broken.different (passed.alike.alike at.index relation
      (slice_get_within checked.relations at.index relation broken.is_relation)
      broken.is_relation ShortLex checked.relations _ _ _ broken.accepted broken.left broken.right)
  not_passed cert (of_elements passes first) early passed = absurd (omega (arith, early))

  -- what a first certificate of each kind says
  abbrev Says : Cert → Type 0
  Says (N1 u) = IsLeastWord (PrefixNotAccepted own) u
  Says (N2 x u v) = IsFirstPair (PairOutsideAcceptor own) x u v
  Says (N4 x u) = IsFirstWord (WordWithoutImage own) x u
  Says (N5 x u v other) = IsFirstTriple (TwoImages own) x u v other
  Says (N6 x u) = IsFirstWord (MissingExtension own) x u
  Says (N7 x u v) = IsFirstPair (ImageNotLeast own) x u v
  Says (N8 number u a b) =
      PassesLeast checked
      × AtNumber (λ index. IsFirstBroken checked.relations checked.acceptor checked.multipliers
      checked.limit index u a b) number
  Says (N3 x u v) = IsFirstPair (PairOfDifferentElements own) x u v

  says : (cert : Cert) → IsFirstOfAll checked cert → Says cert
  says cert (of_automata (n1 least)) = least ShortLex checked.relations
  says cert (of_automata (n2 passes first)) = first ShortLex checked.relations
  says cert (of_automata (n4 passes first few)) = first ShortLex checked.relations
  says cert (of_automata (n5 passes first)) = first ShortLex checked.relations
  says cert (of_automata (n6 passes first)) = first ShortLex checked.relations
  says cert (of_automata (n7 passes first)) = first checked.relations
  says cert (of_automata (n8 passes at)) = (passes, at)
  says cert (of_elements passes first) = first

  -- ---- a relation that is broken

  abbrev IsBroken : ℕ → List ℕ → List ℕ → List ℕ → Type 0
  IsBroken = IsFirstBroken checked.relations checked.acceptor checked.multipliers checked.limit

  -- no relation is broken before the first that is
  not_earlier : {i j : ℕ} {u a b v c d : List ℕ} → IsBroken i u a b → IsBroken j v c d → ¬ (i < j)
  not_earlier {i} one other earlier =
      let broken = one.broken ShortLex in
      broken.different
      (other.earlier.alike i broken.relation earlier broken.is_relation ShortLex checked.relations
      _ _ _ broken.accepted broken.left broken.right)

  module _ (over : AreOverGenerators own) (passes : PassesLeast checked) where
    unique_images : HasUniqueImages own
    unique_images = record {
      images = passes.earlier.earlier.earlier.images ShortLex checked.relations;
      none_outside = passes.earlier.earlier.earlier.earlier.inside ShortLex checked.relations;
      no_two = passes.earlier.earlier.single ShortLex checked.relations;
    }

    module _ {index : ℕ} {u a b v c d : List ℕ} (one : IsBroken index u a b)
        (other : IsBroken index v c d) where
      one_word : u ≡ v
      one_word =
          neither_less u v (other.least ShortLex u a b (one.broken ShortLex))
          (one.least ShortLex v c d (other.broken ShortLex))

      abbrev first_broken : RelationBroken own index u a b
      first_broken = one.broken ShortLex

      abbrev also_broken : RelationBroken own index v c d
      also_broken = other.broken ShortLex

      same_relation : also_broken.relation ≡ first_broken.relation
      same_relation =
          same_Some _ _ (sym also_broken.is_relation ∙ first_broken.is_relation)

      one_left : a ≡ c
      one_left =
          let relation = first_broken.relation in
          let From : List ℕ → Type 0 = λ w. Follows own relation.0 w c in
          let Along : Pair → Type 0 = λ r. Follows own r.0 v c in
          leads_to_one own unique_images relation.0 u a c
          (over relation (index, first_broken.is_relation)).0 first_broken.left
          (subst From (sym one_word) (subst Along same_relation also_broken.left))

      one_right : b ≡ d
      one_right =
          let relation = first_broken.relation in
          let From : List ℕ → Type 0 = λ w. Follows own relation.1 w d in
          let Along : Pair → Type 0 = λ r. Follows own r.1 v d in
          leads_to_one own unique_images relation.1 u b d
          (over relation (index, first_broken.is_relation)).1 first_broken.right
          (subst From (sym one_word) (subst Along same_relation also_broken.right))

      one_broken : (number : ℕ) → N8 number u a b ≡ N8 number v c d
      one_broken number =
          ap (λ z. N8 number z a b) one_word
          ∙ (ap (λ z. N8 number v z b) one_left ∙ ap (λ z. N8 number v c z) one_right)

  one_relation : AreOverGenerators own → (number second : ℕ) (u a b v c d : List ℕ)
      → Says (N8 number u a b) → Says (N8 second v c d)
      → N8 number u a b ≡ N8 second v c d
  one_relation over number second u a b v c d one other =
      let index : one.1.index ≡ other.1.index =
      neither_lower one.1.index other.1.index (not_earlier one.1.holds other.1.holds)
      (not_earlier other.1.holds one.1.holds) in
      let At : ℕ → Type 0 = λ i. IsBroken i u a b in
      let numbers : number ≡ second =
      one.1.counts_from_one ∙ (ap suc index ∙ sym other.1.counts_from_one) in
      ap (λ z. N8 z u a b) numbers
      ∙ one_broken over one.0 (subst At index one.1.holds) other.1.holds second

  -- ---- one certificate

  same_kind : AreOverGenerators own → (cert other : Cert) → place cert ≡ place other → Says cert
      → Says other → cert ≡ other
  same_kind over (N1 u) (N1 v) same one other = ap N1 (one_least_word one other)
  same_kind over (N2 x u v) (N2 y a b) same one other = one_pair one other N2
  same_kind over (N4 x u) (N4 y v) same one other =
      ap (λ z. N4 z u) (one_word_letter one other) ∙ ap (λ z. N4 y z) (one_first_word one other)
  same_kind over (N5 x u v w) (N5 y a b c) same one other = one_triple one other
  same_kind over (N6 x u) (N6 y v) same one other =
      ap (λ z. N6 z u) (one_word_letter one other) ∙ ap (λ z. N6 y z) (one_first_word one other)
  same_kind over (N7 x u v) (N7 y a b) same one other = one_pair one other N7
  same_kind over (N8 number u a b) (N8 second v c d) same one other =
      one_relation over number second u a b v c d one other
  same_kind over (N3 x u v) (N3 y a b) same one other = one_pair one other N3
  same_kind over _ _ same one other = absurd (omega (arith, same))

  place_within : (cert : Cert) → place cert ≤ 7
  place_within (N1 u) = omega arith
  place_within (N2 x u v) = omega arith
  place_within (N4 x u) = omega arith
  place_within (N5 x u v other) = omega arith
  place_within (N6 x u) = omega arith
  place_within (N7 x u v) = omega arith
  place_within (N8 number u a b) = omega arith
  place_within (N3 x u v) = omega arith

  -- no first certificate is of an earlier kind than another
  not_before : (cert other : Cert) → IsFirstOfAll checked cert → IsFirstOfAll checked other
      → ¬ (place cert < place other)
  not_before cert other one also before =
      let most = place_within other in
      not_passed cert one (omega (arith, before, most))
      (passed_before other (place cert) also before)

  -- there is one first certificate
  pub one_certificate : AreOverGenerators own → (cert other : Cert) → IsFirstOfAll checked cert
      → IsFirstOfAll checked other → cert ≡ other
  one_certificate over cert other one also =
      same_kind over cert other
      (neither_lower (place cert) (place other) (not_before cert other one also)
      (not_before other cert also one))
      (says cert one) (says other also)

  -- ---- automata that pass

  place_early : (cert : Cert) → IsFirstCertificate checked cert → place cert ≤ 6
  place_early cert (n1 least) = omega arith
  place_early cert (n2 passes first) = omega arith
  place_early cert (n4 passes first few) = omega arith
  place_early cert (n5 passes first) = omega arith
  place_early cert (n6 passes first) = omega arith
  place_early cert (n7 passes first) = omega arith
  place_early cert (n8 passes at) = omega arith

  -- against automata that pass there is no certificate but perhaps of the last kind
  pub none_by_themselves : PassesRelations checked → (cert : Cert)
      → ¬ IsFirstCertificate checked cert
  none_by_themselves passes cert first =
      let early = place_early cert first in
      not_passed cert (of_automata first) (omega (arith, early))
      (passed_below 6 (place cert) early passes)

  -- ---- the group's own automata

  not_last : (cert : Cert) → IsFirstOfAll checked cert → IsAutomaticStructure own → 7 ≤ place cert → ⊥
  not_last cert (of_elements passes first) is_own last =
      let certificate = first.least.holds in
      certificate.different
      ((is_own.multipliers _ certificate.generator _ _).0 certificate.multiplies).equal
  not_last cert (of_automata (n1 least)) is_own last = omega (arith, last)
  not_last cert (of_automata (n2 passes first)) is_own last = omega (arith, last)
  not_last cert (of_automata (n4 passes first few)) is_own last = omega (arith, last)
  not_last cert (of_automata (n5 passes first)) is_own last = omega (arith, last)
  not_last cert (of_automata (n6 passes first)) is_own last = omega (arith, last)
  not_last cert (of_automata (n7 passes first)) is_own last = omega (arith, last)
  not_last cert (of_automata (n8 passes at)) is_own last = omega (arith, last)

  -- there is no certificate against automata that pass and are the group's own
  pub own_has_none : PassesRelations checked → IsAutomaticStructure own → (cert : Cert)
      → ¬ IsFirstOfAll checked cert
  own_has_none passes is_own cert first = elim (cases_order (place cert) 7) [
    | inl last ↦ not_last cert first is_own (omega (arith, last))
    | inr (inl early) ↦
        not_passed cert first early (passed_below 6 (place cert) (omega (arith, early)) passes)
    | inr (inr past) ↦ not_last cert first is_own (omega (arith, past))
  ]
