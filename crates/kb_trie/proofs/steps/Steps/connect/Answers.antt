use Rattle.std.proofs.Common.{◌≡◌, ℕ, ◌+◌, ◌*◌, ◌<◌, ◌≤◌, List, [], ◌∷◌, ◌++◌, length, get_or, set, sym, ap, ◌∙◌, subst, refl, arith}
use Rattle.std.proofs.lemmas.List.{get_or_read, length_push}
use Rattle.kb_trie.specs.States.{word}
use Rattle.kb_trie.specs.Tries.{AreDepths}
use Rattle.kb_trie.specs.Walks.{IsAmong}
use Rattle.kb_trie.proofs.Connecting.{comes, depths_connected, links_connected, noted_state, row_fits, rows_connected}
use Rattle.kb_trie.proofs.Longest.{depth_below}
use Rattle.kb_trie.proofs.steps.Steps.connect.Goals as goal

pub relink-requires-clause-states : goal.relink-requires-clause-states
relink-requires-clause-states c =
    let given = c.requires.walked in
    let children : List ℕ = c.args.walk.now.stopped.items in
    let P : List ℕ → Type 0 = λ list. (i : ℕ) → i < length list → (0 < get_or list i 0) × (get_or list i 0 < c.add.new.self.count) in
    let each : P children = λ i within.
    let is = noted_state given.0 c.args.self.now.tree.links.items c.args.state c.args.letter c.args.walk.now.free.items children given.1 given.5
    (get_or children i 0) (record { place = i; within = within; is = refl }) in
    (is.0, omega (arith, is.1, c.add.ensures.count, given.2.count)) in
    subst P (sym c.deref.ensures.value) each

pub set_steps-requires : goal.set_steps-requires
set_steps-requires c =
    let given = c.requires.walked in
    let free : List ℕ = c.args.walk.now.free.items in
    let width : ℕ = c.args.self.now.table.width in
    let room : ℕ = length c.args.self.now.table.rows.items in
    let P : List ℕ → Type 0 = λ list. (i : ℕ) → i < length list → get_or list i 0 * width + width ≤ room in
    let each : P free = λ i within.
    let is = given.5.walk.free_each (get_or free i 0) (record { place = i; within = within; is = refl }) in
    row_fits (get_or free i 0) (c.args.self.now.tree.count + 1) width room (omega (arith, is.within, given.2.count)) c.requires.room.rows in
    subst P (sym c.deref-2.ensures.value) each

pub overflow_add-index : goal.overflow_add-index
overflow_add-index c =
    let given = c.requires.walked in
    let depths : List ℕ = c.args.self.now.depths.items in
    let value : c.index.result.now ≡ get_or depths c.args.state 0 =
    get_or_read depths c.args.state c.index.result.now (omega (arith, given.2.depths.room, given.4)) c.index.ensures 0 in
    omega (arith, value, given.2.depths.each c.args.state given.4, depth_below given.0 given.1 c.args.state given.4, given.4, given.2.count, c.requires.room.few)

pub returns : goal.returns
returns c words are has none within step walk =
    let old = c.args.self.now in
    let root : ℕ = c.args.state in
    let letter : ℕ = c.args.letter in
    let after : ℕ = c.args.after in
    let links : List ℕ = old.tree.links.items in
    let free : List ℕ = c.args.walk.now.free.items in
    let children : List ℕ = c.args.walk.now.stopped.items in
    let next : List ℕ = word words root ++ letter ∷ [] in
    let found = comes words links root letter free children are has.links within none walk in
    let depths : List ℕ = old.depths.items in
    let value : c.index.result.now ≡ get_or depths root 0 =
    get_or_read depths root c.index.result.now (omega (arith, has.depths.room)) c.index.ensures 0 in
    let A : ℕ → List ℕ → Type 0 = λ state list. IsAmong list state in
    let D : ℕ → Type 0 = λ n. AreDepths (words ++ (word words root ++ letter ∷ []) ∷ []) (set depths n (c.index.result.now + 1)) in
    record {
      count = c.relink.ensures.count ∙ c.add.ensures.count ∙ ap (λ (n : ℕ). n + 1) has.count ∙ sym (length_push words next);
      tree = c.relink.ensures.tree;
      links =
          links_connected words links c.relink.new.self.links.items root letter after free children found step
          (omega (arith, has.count, c.requires.room.links))
          (λ state among. c.relink.ensures.moved state (subst (A state) (sym c.deref.ensures.value) among) ∙ has.count)
          (λ state other.
          c.relink.ensures.others state (λ among. other (subst (A state) c.deref.ensures.value among))
          ∙ ap (λ (ls : List ℕ). get_or ls state 0) c.add.ensures.links
          ∙ ap (λ (n : ℕ). get_or (set links n after) state 0) has.count);
      rows =
          rows_connected words links root letter after old.table.width old.table.rows.items c.set_steps.new.self.rows.items
          c.copy_row.new.self.rows.items free c.deref-2.result.now children old.tree.count c.set_steps.new.self.width c.copy_row.new.self.width
          found step has.rows has.count c.deref-2.ensures.value c.set_steps.ensures.width c.copy_row.ensures.width c.set_steps.ensures.count
          c.copy_row.ensures.count c.requires.room.rows c.set_steps.ensures.set c.set_steps.ensures.others c.copy_row.ensures.row
          c.copy_row.ensures.others;
      depths =
          subst D (sym has.count)
          (depths_connected words depths root letter (c.index.result.now + 1) has.depths within (omega (arith, has.count, c.requires.room.depths))
          (ap (λ (n : ℕ). n + 1) value));
    }
