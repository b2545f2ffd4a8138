use Rattle.std.proofs.Common.{◌≡◌, List, [], ◌∷◌, ◌++◌, sym, subst, rules}
use Rattle.kb_record.specs.NamesMet.{Bracket, Names, opened, IsBracket}
use Rattle.kb_record.proofs.OpenLemmas.{Seen, goes_on}
use Rattle.kb_record.proofs.repeats.Open.push.Goals as goal

pub returns : goal.returns
returns c = λ (next : Names) (f : Bracket) (fs : List Bracket) are.
    let old = c.args.self.now in
    let inner : c.replace-around.new.dest ≡ c.bracket.result = search rules in
    let pushed : c.push.new.self.items ≡ old.outer.items ++ old.inner ∷ [] = search rules in (
      opened c.args.of_record,
      f ∷ fs,
      (subst (λ (x : Seen). IsBracket x (opened c.args.of_record)) (sym inner) c.bracket.ensures, (old.outer.items, old.inner, pushed, are.0, are.1)),
      goes_on (next (opened c.args.of_record) (f ∷ fs)),
    )
