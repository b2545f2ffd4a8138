use Rattle.std.proofs.Common.{◌∙◌}
use Rattle.kb_round.proofs.making.canonical_form.Goals as goal

pub returns : goal.returns
returns c =
    let made = c.in_ok-form.ensures in
    let from = c.in_ok-accepting.ensures in
    record {
      alphabet = made.alphabet ∙ from.alphabet;
      language = λ text. (
        λ accepts. (from.language text).0 ((made.language text).1 accepts),
        λ has. (made.language text).0 ((from.language text).1 has),
      );
      canonical = made.canonical;
    }
