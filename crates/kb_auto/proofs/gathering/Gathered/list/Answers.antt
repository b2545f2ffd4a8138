use Rattle.std.proofs.Common.{◌≡◌, ◌∙◌, ◌++◌, List, ap}
use Rattle.kb_kept.specs.Listed.{rule_equalities}
use Rattle.kb_kept.specs.declared.equality.Equality.{Equality}
use Rattle.kb_system.specs.Problems.{limits_of}
use Rattle.kb_auto.specs.Autgroup.{tried_by}
use Rattle.kb_auto.proofs.GatheredRounds.{lists_kept, lists_short, stand_for_pairs, stand_over}
use Rattle.kb_auto.proofs.TriedAtHalt.{all_equalities_over, of_all_equalities}
use Rattle.kb_auto.proofs.gathering.Gathered.list.Goals as goal

pub list_differences-requires-clause-over : goal.list_differences-requires-clause-over
list_differences-requires-clause-over c =
    let gathered = c.args.self.now in
    let rules = c.args.rules.now.rules in
    let tried = tried_by (limits_of c.args.limits.now) c.args.limits.now.diffs c.args.presentation.now rules in
    let rounds = ap (λ v. v.items) c.replace-rounds.ensures.value in
    let are : c.in_ok-equalities.equalities.items ≡ rule_equalities rules ++ gathered.rounds.items =
    c.in_ok-equalities.ensures ∙ ap (λ (l : List Equality). l ++ c.replace-rounds.result.items) c.in_ok-rule_equalities.ensures
    ∙ ap (λ (l : List Equality). rule_equalities rules ++ l) rounds in
    let over = stand_over tried gathered c.requires.letters c.requires.gathered in
    all_equalities_over gathered.differences.group.n rules gathered.rounds.items c.in_ok-equalities.equalities.items over.0 over.1 are

pub list_differences-requires-clause-kept : goal.list_differences-requires-clause-kept
list_differences-requires-clause-kept c =
    let gathered = c.args.self.now in
    let rules = c.args.rules.now.rules in
    let tried = tried_by (limits_of c.args.limits.now) c.args.limits.now.diffs c.args.presentation.now rules in
    let rounds = ap (λ v. v.items) c.replace-rounds.ensures.value in
    let are : c.in_ok-equalities.equalities.items ≡ rule_equalities rules ++ gathered.rounds.items =
    c.in_ok-equalities.ensures ∙ ap (λ (l : List Equality). l ++ c.replace-rounds.result.items) c.in_ok-rule_equalities.ensures
    ∙ ap (λ (l : List Equality). rule_equalities rules ++ l) rounds in
    let kept = stand_for_pairs tried gathered c.requires.gathered in
    (kept.0, of_all_equalities rules gathered.rounds.items c.in_ok-equalities.equalities.items kept.0 are kept.1)

pub returns-clause-kept : goal.returns-clause-kept
returns-clause-kept c = λ gathers.
    let gathered = c.args.self.now in
    let rules = c.args.rules.now.rules in
    let tried = tried_by (limits_of c.args.limits.now) c.args.limits.now.diffs c.args.presentation.now rules in
    let rounds = ap (λ v. v.items) c.replace-rounds.ensures.value in
    let are : c.in_ok-equalities.equalities.items ≡ rule_equalities rules ++ gathered.rounds.items =
    c.in_ok-equalities.ensures ∙ ap (λ (l : List Equality). l ++ c.replace-rounds.result.items) c.in_ok-rule_equalities.ensures
    ∙ ap (λ (l : List Equality). rule_equalities rules ++ l) rounds in
    lists_kept tried gathered c.in_ok-list_differences.field-0 (c.in_ok-list_differences.ensures.equalities ∙ are)
    c.in_ok-list_differences.ensures.lists
    (λ answer adds. c.in_ok-list_differences.ensures.needed answer
    (of_all_equalities rules gathered.rounds.items c.in_ok-equalities.equalities.items answer are adds)) gathers

pub returns-clause-short : goal.returns-clause-short
returns-clause-short c = λ lacks.
    let gathered = c.args.self.now in
    let rules = c.args.rules.now.rules in
    let tried = tried_by (limits_of c.args.limits.now) c.args.limits.now.diffs c.args.presentation.now rules in
    let rounds = ap (λ v. v.items) c.replace-rounds.ensures.value in
    let are : c.in_ok-equalities.equalities.items ≡ rule_equalities rules ++ gathered.rounds.items =
    c.in_ok-equalities.ensures ∙ ap (λ (l : List Equality). l ++ c.replace-rounds.result.items) c.in_ok-rule_equalities.ensures
    ∙ ap (λ (l : List Equality). rule_equalities rules ++ l) rounds in
    lists_short tried gathered c.in_ok-list_differences.field-0 (c.in_ok-list_differences.ensures.equalities ∙ are)
    c.in_ok-list_differences.ensures.lists
    (λ answer adds. c.in_ok-list_differences.ensures.needed answer
    (of_all_equalities rules gathered.rounds.items c.in_ok-equalities.equalities.items answer are adds)) lacks
