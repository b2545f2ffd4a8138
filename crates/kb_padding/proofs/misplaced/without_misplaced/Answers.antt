use Rattle.std.proofs.Common.{◌≡◌, ◌≢◌, ◌*◌, ◌+◌, ◌-◌, ℕ, Bool, List, sym, ap, ◌∙◌, subst}
use Rattle.kb_fsa.specs.Table.{Moves, Table, IsTable, HasSymbols, state_after}
use Rattle.kb_fsa.specs.Padding.{IsPadded}
use Rattle.kb_padding.specs.Misplaced.{IsWithoutMisplaced}
use Rattle.kb_padding.specs.Cleaning.{is_dropped, kept_rows}
use Rattle.kb_padding.proofs.Cleanings.{IsTable-without, without_misplaced_moves, texts_without, symbols_without}
use Rattle.kb_padding.proofs.misplaced.without_misplaced.Goals as goal

same_table : {initial initial' : ℕ} {rows rows' : List Moves} {accepting accepting' : List Bool} → initial ≡ initial' → rows ≡ rows' → accepting ≡ accepting'
    → ◌≡◌ {A = Table} (record { initial = initial; rows = rows; accepting = accepting }) (record { initial = initial'; rows = rows'; accepting = accepting' })
same_table {initial'} {rows} {rows'} {accepting} one two three =
    let I : ℕ → Table = λ i. record { initial = i; rows = rows; accepting = accepting } in
    let R : List Moves → Table = λ rs. record { initial = initial'; rows = rs; accepting = accepting } in
    let A : List Bool → Table = λ bs. record { initial = initial'; rows = rows'; accepting = bs } in
    ap I one ∙ ap R two ∙ ap A three

pub new-requires : goal.new-requires
new-requires c =
    let read = c.args.read in
    let reach = c.in_ok-reach.reach in
    let dropped = is_dropped c.args.n reach.marks.items reach.first.items reach.second.items in
    let same = same_table c.initial.ensures.initial (c.in_ok-rows.ensures ∙ ap (kept_rows dropped 1) c.rows.ensures.rows)
    (c.in_ok-accepting.ensures.items ∙ c.accepting.ensures.accepting) in
    subst IsTable (sym same) (IsTable-without dropped read c.rows.ensures.table)

pub returns-clause-cleaned : goal.returns-clause-cleaned
returns-clause-cleaned c =
    let read = c.args.read in
    let reach = c.in_ok-reach.reach in
    let dropped = is_dropped c.args.n reach.marks.items reach.first.items reach.second.items in
    let same = same_table c.initial.ensures.initial (c.in_ok-rows.ensures ∙ ap (kept_rows dropped 1) c.rows.ensures.rows)
    (c.in_ok-accepting.ensures.items ∙ c.accepting.ensures.accepting) in (
      subst (IsWithoutMisplaced c.args.n read) (sym (c.new.ensures ∙ same))
          (without_misplaced_moves c.args.n read reach.marks.items reach.first.items reach.second.items c.rows.ensures.table c.in_ok-reach.ensures.reach),
      c.in_ok-reach.ensures.padded,
    )

pub returns-clause-symbols : goal.returns-clause-symbols
returns-clause-symbols c =
    let read = c.args.read in
    let reach = c.in_ok-reach.reach in
    let n = c.args.n in
    let dropped = is_dropped n reach.marks.items reach.first.items reach.second.items in
    let same = same_table c.initial.ensures.initial (c.in_ok-rows.ensures ∙ ap (kept_rows dropped 1) c.rows.ensures.rows)
    (c.in_ok-accepting.ensures.items ∙ c.accepting.ensures.accepting) in
    subst (HasSymbols ((n + 1) * (n + 1) - 1)) (sym (c.new.ensures ∙ same))
    (symbols_without n read reach.marks.items reach.first.items reach.second.items c.rows.ensures.table c.in_ok-reach.ensures.reach c.requires.symbols)

pub returns-clause-texts : goal.returns-clause-texts
returns-clause-texts c =
    let read = c.args.read in
    let reach = c.in_ok-reach.reach in
    let n = c.args.n in
    let dropped = is_dropped n reach.marks.items reach.first.items reach.second.items in
    let same = same_table c.initial.ensures.initial (c.in_ok-rows.ensures ∙ ap (kept_rows dropped 1) c.rows.ensures.rows)
    (c.in_ok-accepting.ensures.items ∙ c.accepting.ensures.accepting) in
    subst (λ (table : Table). (text : List ℕ) → state_after table text ≢ 0 → IsPadded n text) (sym (c.new.ensures ∙ same))
    (texts_without n read reach.marks.items reach.first.items reach.second.items c.rows.ensures.table c.in_ok-reach.ensures.reach c.requires.symbols)
