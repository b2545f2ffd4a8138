use Rattle.std.proofs.Common.{ℕ, List, [], ◌∷◌, ◌++◌, Option, take, sym, ap, ◌∙◌, append_assoc}
use Rattle.std.specs.List.{filter_map}
use Rattle.kb_fsadet.proofs.FirstWordLemmas.{filter_map_more_none, filter_map_more_some}
use Rattle.kb_certificates.specs.declared.later_pairs.relation.Relation.{Relation}
use Rattle.kb_certificates.specs.Rivalry.{rival_by}
use Rattle.kb_certificates.proofs.later_pairs.rivalry.Rivalry.push_letters.Goals.{in-Some+in_ok-push, in_default}
use Rattle.kb_certificates.proofs.later_pairs.rivalry.Rivalry.push_letters.Goals as goal

pub loop-entry-preserved : goal.loop-entry-preserved
loop-entry-preserved c =
    let h : ℕ × ℕ → Option (ℕ × Relation) = rival_by c.args.self.now.symbols.n c.args.rivals.now.relation c.args.first c.args.second in
    let items = c.as_slice-entry-items.result.now in
    let place = c.loop-entry.entry-index in
    let start = c.args.after.now.items in
    let so_far = filter_map h (take place items) in
    elim c.match-next.branch [
      | in-Some+in_ok-push w ↦
          let rival = w.in-Some.rival in
          let more = filter_map_more_some h items place (0, 0) rival c.loop-entry-test.true (sym c.rival_by-next.ensures ∙ w.in-Some.is) in
          ap (λ v. v.items) w.after-is ∙ w.in_ok-push.ensures.items
          ∙ ap (λ (xs : List (ℕ × Relation)). xs ++ rival ∷ []) c.loop-entry.invariant ∙ append_assoc start so_far (rival ∷ [])
          ∙ ap (λ (xs : List (ℕ × Relation)). start ++ xs) (sym more)
      | in_default w ↦
          let more = filter_map_more_none h items place (0, 0) c.loop-entry-test.true (sym c.rival_by-next.ensures ∙ w.in_default.is) in
          ap (λ v. v.items) w.after-is ∙ c.loop-entry.invariant ∙ ap (λ (xs : List (ℕ × Relation)). start ++ xs) (sym more)
    ]
