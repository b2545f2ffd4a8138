use Rattle.std.proofs.Common.{ℕ, List, Option, inr, map, sym, subst}
use Rattle.std.specs.Option.{option_copied}
use Rattle.kb_presfile.specs.Holds.{StandFor}
use Rattle.kb_presfile.specs.Faults.{PlacesHaveFault}
use Rattle.kb_presfile.specs.declared.error.PresError.TheVariants as errors
use Rattle.kb_presfile.proofs.InverseLemmas.{first_not_mutual}
use Rattle.kb_presfile.proofs.NoFault.{none_unknown}
use Rattle.kb_presfile.proofs.inverses.inverses_at.Goals as goal

pub returns-in_ok-from_str-in-Some-clause-fault : goal.returns-in_ok-from_str-in-Some-clause-fault
returns-in_ok-from_str-in-Some-clause-fault c =
    let names = c.args.names.now in
    let places = map option_copied c.args.places.now in
    let P : List (Option ℕ) → Type 0 = λ letters. StandFor names places letters in
    let Q : List ℕ → Type 0 = λ name. PlacesHaveFault names places (errors.InverseNotMutual name) in
    let stand = subst P (sym c.from_vec-inverses.ensures) c.in_ok-letters_at.ensures.read in
    subst Q (sym c.in_ok-from_str-in-Some.ensures)
    (inr (
      λ k error fault. none_unknown names places c.from_vec-inverses.result k error stand c.requires fault,
      first_not_mutual names places c.from_vec-inverses.result c.in-Some.name.now stand c.in-Some.ensures.found,
    ))
