use Rattle.kb_cmd_automata.specs.Make.{minimise_making}
use Rattle.kb_cmd_automata.specs.MakeLaws.{known}
use Rattle.kb_cmd_automata.proofs.RunLemmas.{run-at_load, run-made}
use Rattle.kb_cmd_automata.proofs.minimise.Minimise.run.Goals as goal

pub returns-in-Ok : goal.returns-in-Ok
returns-in-Ok g c =
    let read = c.in-Ok.ensures.holds in
    run-made c.load_language.ensures.only_loads (minimise_making c.args.self) (λ one limit. ⊥) read.holds tt
    c.in-Ok.given.fsa (known _ _) (read.alphabet, (λ text. ((read.language text).1, (read.language text).0))) (λ limit none. none) c.store_canonical.ensures

pub returns-in-Err : goal.returns-in-Err
returns-in-Err g c = run-at_load c.load_language.ensures.only_loads c.in-Err.ensures.fault c.in-Err.ensures.ends
