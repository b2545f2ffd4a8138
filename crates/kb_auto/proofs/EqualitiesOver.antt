-- The equalities of certificates are over the generators.
use Rattle.std.proofs.Common.{◌≡◌, ℕ, ◌<◌, ◌≤◌, List, [], ◌∷◌, ◌++◌, refl, ap, subst}
use Rattle.std.proofs.lemmas.List.Elements.{All-push}
use Rattle.kb_word.specs.Words.{Pair as Sides}
use Rattle.kb_word.specs.Relations.{IsOver}
use Rattle.kb_word.specs.Rewriting.{NormalForm}
use Rattle.kb_word.specs.declared.presentation.Presentation.{Presentation}
use Rattle.kb_word.specs.declared.word_order.WordOrder.TheVariants.{ShortLex}
use Rattle.kb_rules.proofs.Lists.{All-front}
use Rattle.kb_fsa.specs.Language.{generators}
use Rattle.kb_diff.specs.Groups.{AreRulesOver}
use Rattle.kb_diff.proofs.OverGenerators.{normal_over}
use Rattle.kb_kept.specs.declared.equality.Equality.{Equality}
use Rattle.kb_structure.specs.Structure.{Structure, Follows}
use Rattle.kb_structure.specs.StructureOf.{structure_of}
use Rattle.kb_structure.specs.declared.cert.Cert.{Cert}
use Rattle.kb_structure.specs.declared.cert.Cert.TheVariants.{N1, N2, N3, N4, N5, N6, N7, N8}
use Rattle.kb_axioms.specs.Answered.{checked_in}
use Rattle.kb_axioms.specs.Checked.{Checked, IsFirstCertificate, n4, n5, n6, n7, n8}
use Rattle.kb_round.specs.Rounds.{RefutesBy, ShowsEquality, no_image, two_images, no_extension, not_least, broken}

-- both words of an equality
abbrev pub IsEqualityOver : ℕ → Equality → Type 0
IsEqualityOver n equality = IsOver n equality.u × IsOver n equality.v

-- following a word leads from words over the generators to such words
follows_over : (structure : Structure) (w u v : List ℕ) → IsOver structure.n u → Follows structure w u v → IsOver structure.n v
follows_over structure [] u v over same = subst (λ (z : List ℕ). IsOver structure.n z) same over
follows_over structure (x ∷ w) u v over leads =
    follows_over structure w leads.0 v leads.1.0.second_letters leads.1.1

module _ (n : ℕ) (rules : List Sides) (over : AreRulesOver n rules) where
  abbrev IsLetter : ℕ → Type 0
  IsLetter x = (0 < x) × (x ≤ n)

  -- a word over the generators, followed by one, has such a normal form
  product_over : (x : ℕ) (u v : List ℕ) → IsOver n u → IsLetter x → NormalForm rules (u ++ x ∷ []) v → IsOver n v
  product_over x u v word letter normal =
      normal_over n rules (u ++ x ∷ []) v over normal (All-push IsLetter u x word letter)

  of_certificate : (checked : Checked) → generators checked.acceptor.alphabet ≡ n → (cert : Cert) (equality : Equality)
      → IsFirstCertificate checked cert → ShowsEquality rules cert equality → IsEqualityOver n equality
  of_certificate checked same (N1 _) equality _ shows = elim shows [ ]
  of_certificate checked same (N2 _ _ _) equality _ shows = elim shows [ ]
  of_certificate checked same (N3 _ _ _) equality first _ = elim first [ ]
  of_certificate checked same (N4 x u) _ (n4 earlier first few) (no_image {v = v} normal) =
      let holds = (first ShortLex checked.relations).least.holds in
      let W : ℕ → Type 0 = λ k. IsOver k u in
      let L : ℕ → Type 0 = λ k. (0 < x) × (x ≤ k) in
      let word = subst W same holds.accepted.letters in
      (word, product_over x u v word (subst L same holds.generator) normal)
  of_certificate checked same (N5 x u v other) _ (n5 earlier first) two_images =
      let holds = (first ShortLex checked.relations).least.holds in
      let V : ℕ → Type 0 = λ k. IsOver k v in
      let W : ℕ → Type 0 = λ k. IsOver k other in
      (subst V same holds.one.second_letters, subst W same holds.two.second_letters)
  of_certificate checked same (N6 x u) _ (n6 earlier first) no_extension =
      let holds = (first ShortLex checked.relations).least.holds in
      let W : ℕ → Type 0 = λ k. IsOver k (u ++ x ∷ []) in
      let whole = subst W same holds.accepted.letters in
      (All-front IsLetter u (u ++ x ∷ []) (x ∷ []) refl whole, whole)
  of_certificate checked same (N7 x u v) _ (n7 earlier first) (not_least {w = w} normal) =
      let holds = (first checked.relations).least.holds in
      let U : ℕ → Type 0 = λ k. IsOver k u in
      let V : ℕ → Type 0 = λ k. IsOver k v in
      let L : ℕ → Type 0 = λ k. (0 < x) × (x ≤ k) in (
        subst V same holds.multiplies.second_letters,
        product_over x u w (subst U same holds.multiplies.first_letters) (subst L same holds.generator) normal,
      )
  of_certificate checked same (N8 number u a b) _ (n8 earlier at) broken =
      let holds = at.holds.broken ShortLex in
      let structure = structure_of ShortLex checked.relations checked.acceptor checked.multipliers in
      let A : ℕ → Type 0 = λ k. IsOver k a in
      let B : ℕ → Type 0 = λ k. IsOver k b in
      let word = holds.accepted.letters in (
        subst A same (follows_over structure holds.relation.0 u a word holds.left),
        subst B same (follows_over structure holds.relation.1 u b word holds.right),
      )

-- the equality of a round's certificate
pub equality_is_over : (presentation : Presentation) (rules : List Sides) (words : List (List ℕ)) (limit : ℕ) (equality : Equality)
    → AreRulesOver presentation.n rules → RefutesBy presentation rules words limit equality → IsEqualityOver presentation.n equality
equality_is_over presentation rules words limit equality over refutes =
    let refuted = refutes.refuted in
    of_certificate presentation.n rules over (checked_in presentation refuted.acceptor refuted.multipliers limit)
    (ap generators refuted.made.accepts.alphabet) refutes.cert equality refuted.first refutes.shows
