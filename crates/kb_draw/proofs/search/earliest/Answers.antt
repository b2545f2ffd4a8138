use Rattle.std.proofs.Common.{List, subst, sym, ◌∙◌}
use Rattle.std.proofs.lemmas.List.{map-id}
use Rattle.std.proofs.lemmas.Iterator.Adapters.{YieldsList-from_vec}
use Rattle.std.proofs.lemmas.Iterator.Consumers.{YieldsList-end}
use Rattle.kb_draw.specs.Earliest.{IsEarliestOf}
use Rattle.kb_draw.specs.declared.search_share.SearchShare.{SearchShare}
use Rattle.kb_draw.proofs.Finding.{no_shares, one_more_share}
use Rattle.kb_draw.proofs.search.earliest.Goals as goal

pub loop-share-init : goal.loop-share-init
loop-share-init g c = no_shares c.args.places

pub loop-share-preserved : goal.loop-share-preserved
loop-share-preserved g c =
    one_more_share c.args.places c.loop-share.yielded c.in-Some.share c.loop-share.earliest c.earlier-earliest.result c.earlier-earliest.ensures
    c.loop-share.invariant

pub returns : goal.returns
returns g c =
    let given = c.into_iter-share-iterator.ensures.into_iter_gives in
    let whole = YieldsList-from_vec {s = c.into_iter-share-iterator.result} c.args.shares.items given.0 (given.1 ∙ c.args.shares.ok.0) in
    let end = YieldsList-end whole c.loop-share.yielded c.loop-share.share-iterator c.loop-share.yielded_by c.next.result c.next.new.self
    c.in-None.is c.next.ensures.steps in
    subst (λ (all : List (SearchShare _)). IsEarliestOf c.args.places all c.loop-share.earliest) (sym (map-id c.loop-share.yielded) ∙ end.0)
    c.loop-share.invariant
