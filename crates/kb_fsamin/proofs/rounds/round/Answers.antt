use Rattle.std.proofs.Common.{◌≡◌, ◌≤◌, ◌+◌, not, [], ◌∷◌, ◌++◌, map, length, get_or, refl, sym, ap, ◌∙◌, subst, arith}
use Rattle.std.proofs.lemmas.List.{length-map}
use Rattle.std.proofs.lemmas.List.Sums.{prefix_len-le-length}
use Rattle.kb_fsa.specs.Table.{moves_of}
use Rattle.kb_fsamin.specs.contracts.rounds.SignaturePartialEq.TheImpl.{eq-value}
use Rattle.kb_fsamin.specs.Rounds.{sight, sight_of, class_row, Inserted}
use Rattle.kb_fsamin.proofs.Signatures.{pair_is, signatures_decide}
use Rattle.kb_fsa.proofs.MoveLemmas.{row_at}
use Rattle.kb_fsamin.proofs.RoundSteps.{round_none, round_dead, round_live, round_all, round_same, Inserted-map}
use Rattle.kb_fsamin.proofs.rounds.round.Goals as goal
use Rattle.kb_fsamin.proofs.rounds.round.Goals.{then-class-eq0+in_ok-push, else-class-eq0+in_ok-signature+in_ok-number+in_ok-push-2}

pub loop-place-init : goal.loop-place-init
loop-place-init c =
    round_same c.args.table.now c.args.classes.now _ _ _ _ _ _ refl (ap (map sight_of) (sym c.new-signatures.ensures.empty)) (sym c.in_ok-next.ensures.items)
    (round_none c.args.table.now c.args.classes.now c.requires.none)

pub loop-place-preserved : goal.loop-place-preserved
loop-place-preserved c =
    let table = c.args.table.now in
    let old = c.args.classes.now in
    let done = c.loop-place.place + 1 in
    let seen = map sight_of c.loop-place.signatures.keys in
    let new = c.loop-place.next.items in
    let round = c.loop-place.invariant in
    let rows = c.rows-rows.ensures.rows in
    let row : get_or c.rows-rows.result.now c.loop-place.place [] ≡ moves_of table done =
    ap (λ rs. get_or rs c.loop-place.place []) rows ∙ row_at table c.loop-place.place done (omega arith) in
    elim c.if-class-eq0.branch [
      | then-class-eq0+in_ok-push w ↦
          round_same table old _ _ _ _ _ _ refl (ap (λ s. map sight_of s.keys) (sym w.signatures-is))
          (sym (ap (λ v. v.items) w.next-is ∙ w.in_ok-push.ensures.items))
          (round_dead table old done seen new round w.if-class-eq0.true)
      | else-class-eq0+in_ok-signature+in_ok-number+in_ok-push-2 w ↦
          let signature = w.in_ok-signature.signature in
          let said : sight_of signature ≡ sight table old done =
          pair_is (sight_of signature) (sight table old done) w.in_ok-signature.ensures.class (w.in_ok-signature.ensures.moves ∙ ap (class_row old) (w.get.ensures.moves ∙ row)) in
          let number = w.in_ok-number.number in
          let keys' = w.insert_full.new.self.keys in
          let inserted : Inserted seen (map sight_of keys') (sight table old done) number =
          subst (λ x. Inserted seen (map sight_of keys') x number) said
          (Inserted-map eq-value.it sight_of signatures_decide c.loop-place.signatures.keys keys' signature number
          w.in_ok-number.ensures.keys w.in_ok-number.ensures.index) in
          round_same table old _ _ _ _ _ _ refl (ap (λ s. map sight_of s.keys) (sym w.signatures-is))
          (ap (λ n. new ++ n ∷ []) (omega arith) ∙ sym (ap (λ v. v.items) w.next-is ∙ w.in_ok-push-2.ensures.items))
          (round_live table old done seen (map sight_of keys') new number round w.if-class-eq0.false inserted)
    ]

pub overflow_cast-number : goal.overflow_cast-number
overflow_cast-number c =
    let few = c.loop-place.invariant.few in
    let size = c.rows-rows.ensures.table.size in
    let within : c.in_ok-number.number ≤ length c.loop-place.signatures.keys =
    omega (arith, c.in_ok-number.ensures.index, prefix_len-le-length (λ k. not (eq-value.it c.in_ok-signature.signature k)) c.loop-place.signatures.keys) in
    omega (arith, length-map c.loop-place.signatures.keys sight_of, ap length c.rows-rows.ensures.rows)

pub overflow_add-number : goal.overflow_add-number
overflow_add-number c =
    let few = c.loop-place.invariant.few in
    let size = c.rows-rows.ensures.table.size in
    let within : c.in_ok-number.number ≤ length c.loop-place.signatures.keys =
    omega (arith, c.in_ok-number.ensures.index, prefix_len-le-length (λ k. not (eq-value.it c.in_ok-signature.signature k)) c.loop-place.signatures.keys) in
    omega (arith, length-map c.loop-place.signatures.keys sight_of, ap length c.rows-rows.ensures.rows)

pub returns : goal.returns
returns c =
    round_all c.args.table.now c.args.classes.now (map sight_of c.loop-place.signatures.keys) c.loop-place.next.items c.requires.one_each
    (round_same c.args.table.now c.args.classes.now _ _ _ _ _ _ (omega (arith, ap length c.rows-rows.ensures.rows)) refl refl c.loop-place.invariant)
