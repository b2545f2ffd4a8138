-- Automata have one first count above the limit. No certificate comes before it, and automata that pass have none.
use Rattle.std.proofs.Common.{◌≡◌, ◌∙◌, inl, inr, ℕ, suc, ◌<◌, ◌≤◌, Some, sym, ap, subst, arith}
use Rattle.std.specs.Prelude.{slice_get}
use Rattle.std.proofs.lemmas.Bool.{cases_order}
use Rattle.std.proofs.lemmas.Option.{slice_get_within}
use Rattle.kb_word.specs.declared.word_order.WordOrder.TheVariants.{ShortLex}
use Rattle.kb_structure.specs.declared.cert.Cert.{Cert}
use Rattle.kb_certificates.specs.Images.{IsFirstCounted as IsFirstCountedImages}
use Rattle.kb_certificates.proofs.Loops.{multiplier_within}
use Rattle.kb_relations.specs.Acts.{IsFirstCounted as IsFirstCountedRelation}
use Rattle.kb_axioms.specs.Answered.{IsFirstOfAll, of_automata}
use Rattle.kb_axioms.specs.Checked.{Checked, IsFirstCount, PassesImages, PassesRelations}
use Rattle.kb_axioms.specs.Checked.IsFirstCertificate.{n4, n8}
use Rattle.kb_axioms.specs.Checked.IsFirstCount.{images, relation}
use Rattle.kb_axioms.specs.declared.answers.Construction.{Construction as Counted}
use Rattle.kb_axioms.specs.declared.answers.Construction.TheVariants.{Images, Relation}
use Rattle.kb_cmd_structures.specs.FirstCertificates.{Passed, neither_lower, not_passed, passed_before, passed_below, place}

-- the place of a count, which is that of the kind of certificate beside which it is made
abbrev count_place : Counted → ℕ
count_place (Images x) = 2
count_place (Relation number) = 6

count_place_within : (which : Counted) → count_place which ≤ 6
count_place_within (Images x) = omega arith
count_place_within (Relation number) = omega arith

module _ (checked : Checked) where
  -- where each word has images, none of their counts is above the limit
  no_images_counted : {x : ℕ} → PassesImages checked
      → ¬ IsFirstCountedImages checked.acceptor checked.multipliers checked.limit x
  no_images_counted {x} passes first =
      passes.few x first.multiplier
      (multiplier_within checked.multipliers x first.multiplier first.is_multiplier)
      first.is_multiplier first.counted

  -- and where the relations act alike, none of theirs is
  no_relation_counted : {index : ℕ} → PassesRelations checked
      → ¬ IsFirstCountedRelation checked.relations checked.acceptor checked.multipliers checked.limit index
  no_relation_counted {index} passes first =
      passes.alike.few index first.relation
      (slice_get_within checked.relations index first.relation first.is_relation)
      first.is_relation first.counted

  -- before a count the kinds at earlier places were passed
  passed_before_count : (which : Counted) (k : ℕ) → IsFirstCount checked which
      → k < count_place which → Passed checked k
  passed_before_count which k (images passes first) below =
      passed_below checked 1 k (omega (arith, below)) passes
  passed_before_count which k (relation passes at) below =
      passed_below checked 5 k (omega (arith, below)) passes

  -- and that at its own isn't
  count_not_passed : (which : Counted) → IsFirstCount checked which
      → ¬ Passed checked (count_place which)
  count_not_passed which (images passes first) passed = no_images_counted passed first
  count_not_passed which (relation passes at) passed = no_relation_counted passed at.holds

  -- at one place there are not both a certificate and a count
  not_beside : (cert : Cert) (which : Counted) → IsFirstOfAll checked cert
      → IsFirstCount checked which → ¬ (place cert ≡ count_place which)
  not_beside cert which (of_automata (n4 {x = x} {u = u} pairs certificate few))
      (images {x = y} passes first) same =
      elim (cases_order x y) [
        | inl is ↦
            few y first.multiplier (omega (arith, is)) first.is_multiplier first.counted
        | inr (inl earlier) ↦
            first.images ShortLex checked.relations x u earlier
            (certificate ShortLex checked.relations).least.holds
        | inr (inr later) ↦
            few y first.multiplier (omega (arith, later)) first.is_multiplier first.counted
      ]
  not_beside cert which (of_automata (n8 least at)) (relation passes first) same =
      let broken = at.holds.broken ShortLex in
      let counted = first.holds in
      elim (cases_order at.index first.index) [
        | inl is ↦
            let IsAt : ℕ → Type 0 =
            λ k. slice_get checked.relations k ≡ Some counted.relation in
            at.holds.few counted.relation (subst IsAt (sym is) counted.is_relation) counted.counted
        | inr (inl earlier) ↦
            broken.different
            (counted.earlier.alike at.index broken.relation earlier broken.is_relation ShortLex
            checked.relations _ _ _ broken.accepted broken.left broken.right)
        | inr (inr later) ↦
            at.holds.earlier.few first.index counted.relation later counted.is_relation
            counted.counted
      ]
  not_beside cert which _ (images passes first) same = absurd (omega (arith, same))
  not_beside cert which _ (relation passes first) same = absurd (omega (arith, same))

  -- there is no first count where there is a first certificate
  pub certified_not_counted : (cert : Cert) (which : Counted) → IsFirstOfAll checked cert
      → ¬ IsFirstCount checked which
  certified_not_counted cert which one first = elim (cases_order (place cert) (count_place which)) [
    | inl same ↦ not_beside cert which one first same
    | inr (inl before) ↦
        not_passed checked cert one (omega (arith, before, count_place_within which))
        (passed_before_count which (place cert) first before)
    | inr (inr behind) ↦
        count_not_passed which first (passed_before checked cert (count_place which) one behind)
  ]

  -- nor against automata that pass
  pub passed_not_counted : PassesRelations checked → (which : Counted)
      → ¬ IsFirstCount checked which
  passed_not_counted passes which first =
      count_not_passed which first
      (passed_below checked 6 (count_place which) (count_place_within which) passes)

  -- there is one first count
  pub one_count : (which other : Counted) → IsFirstCount checked which
      → IsFirstCount checked other → which ≡ other
  one_count which other (images {x = x} passes first) (images {x = y} also second) =
      ap (λ z. Images z)
      (neither_lower x y
      (λ lower. second.few x first.multiplier lower first.is_multiplier first.counted)
      (λ higher. first.few y second.multiplier higher second.is_multiplier second.counted))
  one_count which other (images passes first) (relation least at) =
      absurd (no_images_counted least.earlier.earlier.earlier first)
  one_count which other (relation least at) (images passes first) =
      absurd (no_images_counted least.earlier.earlier.earlier first)
  one_count which other (relation least at) (relation also again) =
      let one = at.holds in
      let second = again.holds in
      let index : at.index ≡ again.index =
      neither_lower at.index again.index
      (λ lower. second.earlier.few at.index one.relation lower one.is_relation one.counted)
      (λ higher. one.earlier.few again.index second.relation higher second.is_relation
      second.counted) in
      ap (λ z. Relation z) (at.counts_from_one ∙ (ap suc index ∙ sym again.counts_from_one))
