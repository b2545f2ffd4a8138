use Rattle.std.proofs.Common.{ℕ, ◌+◌, ◌*◌, ◌<◌, List, length, get_or, set, sym, subst, refl, arith}
use Rattle.kb_trie.proofs.Rows.{Leads, leads_more}
use Rattle.kb_trie.proofs.table.Table.set_steps.Goals as goal

pub loop-state-preserved : goal.loop-state-preserved
loop-state-preserved c =
    let states : List ℕ = c.args.states.now in
    let index : ℕ = c.loop-state.state-index in
    let state : ℕ = get_or states index 0 in
    let width : ℕ = c.args.self.now.width in
    let before : List ℕ = c.args.self.now.rows.items in
    let rows : List ℕ = c.loop-state.self.rows.items in
    let W : ℕ → Type 0 = λ w. Leads before (set rows (state * w + c.args.letter) c.args.after) width states c.args.letter c.args.after (index + 1) in
    let within : index < length states = omega arith in
    record {
      width = c.loop-state.invariant.width;
      leads =
          subst W (sym c.loop-state.invariant.width)
          (leads_more before rows width states c.args.letter c.args.after index state (omega (arith, c.if-letter-self.false)) refl
          (c.requires index within) c.loop-state.invariant.leads);
    }
