use Rattle.std.proofs.Common.{rules, ◌≡◌, ◌++◌, arith}
use Rattle.std.specs.Prelude.{codes}
use Rattle.std.proofs.lemmas.Grind.{common_steps}
use Rattle.kb_proof.proofs.HeaderLemmas.{names_version, version_named}
use Rattle.kb_proof.proofs.header.names_other_version.Goals as goal

pub returns-in-Some : goal.returns-in-Some
returns-in-Some c =
    let bytes = c.args.bytes.now in
    let line = c.first_line.result.now in
    let number = c.in-Some.number.now in
    let e : c.first_line.result.now ≡ codes "kblog " ++ c.in-Some.number.now = first_of (search rules, grind (arith, common_steps)) in (
      (λ yes. names_version bytes line number c.first_line.ensures e (c.is_other_version.ensures.0 yes)),
      (λ h. c.is_other_version.ensures.1 (version_named bytes line number c.first_line.ensures e h)),
    )
