use Rattle.std.proofs.Common.{◌≡◌, ◌≢◌, ◌<◌, ℕ, suc, List, [], ◌∷◌, ◌++◌, length, get_or, set, replicate, refl, sym, ap, ◌∙◌, arith, length-set}
use Rattle.std.proofs.lemmas.List.{get_or_read}
use Rattle.kb_fsa.specs.Canonical.{IsState}
use Rattle.kb_fsamin.specs.Rounds.{class_of}
use Rattle.kb_fsamin.proofs.FirstClasses.{firsts_none, firsts_kept, firsts_set, firsts_same, firsts_represent}
use Rattle.kb_fsamin.proofs.classes.first_of_each.Goals as goal
use Rattle.kb_fsamin.proofs.classes.first_of_each.Goals.{then-class-ne0+then-index-eq0, else-class-ne0, else-class-ne0-via-then-class-ne0+else-index-eq0, else-class-ne0-via-else-class-ne0}

pub loop-state-init : goal.loop-state-init
loop-state-init c =
    firsts_same c.args.table.now c.args.classes.now _ _ _ _ _ _ refl
    (ap (λ n. replicate n 0) (sym c.requires.classing.one_each) ∙ sym (c.in_ok-firsts.ensures.items_if_clones_equal (λ y is. is)))
    (sym c.new-listed.ensures.items) (firsts_none c.args.table.now c.args.classes.now)

pub loop-state-preserved : goal.loop-state-preserved
loop-state-preserved c =
    let table = c.args.table.now in
    let classes = c.args.classes.now in
    let state = c.loop-state.state in
    let class = class_of classes state in
    let firsts = c.loop-state.firsts.items in
    let listed = c.loop-state.listed.items in
    let known = c.loop-state.invariant in
    let is : IsState table state = record { positive = c.loop-state.auto.state; within = omega (arith, c.requires.classing.one_each) } in
    let within : class < suc (length table.rows) = omega (arith, c.requires.small state) in
    let long = known.one_each in
    let pushed : (firsts' : List ℕ) → c.if-class-ne0.firsts.items ≡ firsts' → length firsts' ≡ length firsts
    → c.push.new.self.items ≡ listed ++ get_or firsts' class 0 ∷ [] =
    λ firsts' same as_long.
    let read : c.index-in-loop-state.result.now ≡ get_or c.if-class-ne0.firsts.items class 0 =
    get_or_read c.if-class-ne0.firsts.items class _ (omega (arith, ap length same)) c.index-in-loop-state.ensures 0 in
    c.in_ok-push.ensures.items ∙ ap (λ n. listed ++ n ∷ []) (read ∙ ap (λ f. get_or f class 0) same) in
    elim c.if-class-ne0.branch [
      | then-class-ne0+then-index-eq0 w ↦
          let fresh : get_or firsts class 0 ≡ 0 =
          sym (get_or_read firsts class w.index.result.now (omega arith) w.index.ensures 0) ∙ w.if-index-eq0.true in
          let same : c.if-class-ne0.firsts.items ≡ set firsts class state = ap (λ v. v.items) w.firsts-is in
          firsts_same table classes _ _ _ _ _ _ refl (sym same) (sym (pushed (set firsts class state) same (length-set firsts class state)))
          (firsts_set table classes state firsts listed is known w.if-class-ne0.true within fresh)
      | else-class-ne0 w ↦
          let same : c.if-class-ne0.firsts.items ≡ firsts = ap (λ v. v.items) w.firsts-is in
          let here : class ≢ 0 → get_or firsts class 0 ≢ 0 =
          λ live. elim w.else-class-ne0.branch [
            | else-class-ne0-via-then-class-ne0+else-index-eq0 v ↦
                λ none. v.if-index-eq0.false (get_or_read firsts class v.index.result.now (omega arith) v.index.ensures 0 ∙ none)
            | else-class-ne0-via-else-class-ne0 v ↦ absurd (live v.if-class-ne0.false)
          ] in
          firsts_same table classes _ _ _ _ _ _ refl (sym same) (sym (pushed firsts same refl))
          (firsts_kept table classes state firsts listed is.positive known here)
    ]

pub returns : goal.returns
returns c =
    firsts_represent c.args.table.now c.args.labels.now c.args.classes.now c.loop-state.firsts.items c.loop-state.listed.items c.requires.classing c.requires.stable
    (firsts_same c.args.table.now c.args.classes.now _ _ _ _ _ _ (omega (arith, c.requires.classing.one_each, c.loop-state.auto.state-end)) refl refl c.loop-state.invariant)
