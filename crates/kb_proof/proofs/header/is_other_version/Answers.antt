use Rattle.std.proofs.Common.{rules, ◌≡◌, ◌≢◌, [], ◌∷◌, List, ℕ, arith, sym, subst}
use Rattle.std.proofs.lemmas.Grind.{common_steps}
use Rattle.std.proofs.lemmas.Bool.Decides.{Decides-eqb}
use Rattle.std.proofs.lemmas.Slice.Eq.{strip_prefix_is}
use Rattle.std.specs.Prelude.{None}
use Rattle.kb_proof.specs.Faults.{IsOtherVersion}
use Rattle.kb_proof.proofs.HeaderLemmas.{negative_version, other_iff, version_negative}
use Rattle.kb_proof.proofs.header.is_other_version.Goals as goal

pub returns-in-Some : goal.returns-in-Some
returns-in-Some c =
    let digits = c.in-Some.digits.now in
    let e : c.args.number.now ≡ 45 ∷ c.in-Some.digits.now = first_of (search rules, grind (arith, common_steps)) in
    let P : List ℕ → Type 0 = λ l. IsOtherVersion l in (
      (λ yes. subst P (sym e) (negative_version digits (c.are_digits.ensures.0 yes))),
      (λ h. c.are_digits.ensures.1 (version_negative digits (subst P e h))),
    )

pub returns : goal.returns
returns c =
    let number = c.args.number.now in
    let none : (others : List ℕ) → c.args.number.now ≢ 45 ∷ others =
    strip_prefix_is Decides-eqb c.args.number.now (45 ∷ []) None c.in_default.ensures.cases in
    other_iff number c.is_one_or_two.result (c.are_digits-2.ensures.0 c.if-not-are_digits.false) none c.is_one_or_two.ensures.0 c.is_one_or_two.ensures.1
