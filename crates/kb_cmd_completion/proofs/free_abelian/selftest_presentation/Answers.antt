use Rattle.kb_cmd_completion.proofs.AbelianLemmas.{presents}
use Rattle.kb_cmd_completion.proofs.free_abelian.selftest_presentation.Goals as goal

pub new-requires : goal.new-requires
new-requires c =
    presents c.args.n c.in_ok-names.names c.in_ok-inverses.inverses c.in_ok-equations.equations c.in_ok-names.ensures c.in_ok-inverses.ensures
    c.in_ok-equations.ensures
