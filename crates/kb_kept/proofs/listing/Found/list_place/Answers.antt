use Rattle.std.proofs.Common.{ℕ, Option, length, refl, subst}
use Rattle.kb_diff.proofs.PathLemmas.{if_ok_more}
use Rattle.kb_kept.specs.declared.seen.Seen.{Seen}
use Rattle.kb_kept.specs.declared.listing.Found.{Found}
use Rattle.kb_kept.specs.Finding.{FindsAt, FindsOne}
use Rattle.kb_kept.proofs.Standings.{finds_same}
use Rattle.kb_kept.proofs.listing.Found.list_place.Goals as goal

pub returns : goal.returns
returns g c =
    let group = c.args.differences.now.group in
    let most = length c.args.differences.now.words in
    let here : Seen = record { word = c.in_ok-word.word; equality = c.args.index; place = c.args.place } in
    let now : Found = c.args.self.now in
    let between : Found = record { kept = now.kept; known = now.known; workspace = c.difference_at.new.workspace } in
    let new : Found = c.list.new.self in
    let M : ℕ → Option Seen → Type 0 = λ count needed. FindsOne count here between new needed in
    if_ok_more (M c.len.result) (FindsAt group most c.args.equality.now c.args.index c.args.place now new) c.list.result
    (λ needed finds. record {
      word = c.in_ok-word.word;
      difference = c.in_ok-word.ensures.difference;
      finds = finds_same most here between now new refl refl (subst (λ count. M count needed) c.len.ensures.count finds);
    }) c.list.ensures
