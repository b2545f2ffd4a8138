use Rattle.std.proofs.Common.{[], false}
use Rattle.kb_cmd_completion.proofs.AbelianLemmas.{names_few, names_few_more, names_pushed}
use Rattle.kb_cmd_completion.proofs.free_abelian.append_names.Goals as goal

pub push-requires : goal.push-requires
push-requires c = names_few c.args.i c.args.names.now c.args.names.now [] false c.requires.few c.requires.before

pub push-requires-2 : goal.push-requires-2
push-requires-2 c =
    names_few_more c.args.i c.args.names.now c.push.new.self _ c.in_ok-push.field-0 c.requires.few c.requires.before c.in_ok-numbered.ensures
    c.in_ok-push.ensures.new c.in_ok-push.ensures.known

pub returns : goal.returns
returns c =
    names_pushed c.args.i c.args.names.now c.push.new.self _ c.in_ok-push.field-0 c.requires.few c.requires.before c.in_ok-numbered.ensures
    c.in_ok-push.ensures.new c.in_ok-push.ensures.known c.push-2.new.self _ c.in_ok-push-2.field-0 c.in_ok-numbered-2.ensures
    c.in_ok-push-2.ensures.new c.in_ok-push-2.ensures.known
