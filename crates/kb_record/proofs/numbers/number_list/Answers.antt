use Rattle.std.proofs.Common.{◌≡◌, ℕ, ◌≤◌, List, Option, Some, None, Result, Ok, Err, length, arith}
use Rattle.std.specs.Prelude.{IfOk, IfSome}
use Rattle.kb_lexing.specs.Token.{Token}
use Rattle.kb_record.specs.Numbers.{IsListSpelled}
use Rattle.kb_record.specs.Reading.{read, remaining, read_list}
use Rattle.kb_record.specs.View.{value_view}
use Rattle.kb_record.specs.declared.tree.Value.{Value}
use Rattle.kb_record.proofs.NumberLists.{spelled_is_read, fewer_than_spelled}
use Rattle.kb_record.proofs.numbers.number_list.Goals as goal

-- what is said of a list that was found
abbrev Found : {E : Type 0} → Result (Option Value) E → List Token → List Token → Type 0
Found found tokens rest = IfOk found (λ found. IfSome found (λ list. IsListSpelled (value_view list) tokens rest))

read_if_found : {E : Type 0} (found : Result (Option Value) E) (tokens rest : List Token) (depth : ℕ) → 3 ≤ depth → Found found tokens rest → IfOk found (λ found. IfSome found (λ list. read_list depth tokens ≡ read (value_view list) rest))
read_if_found (Ok (Some list)) tokens rest depth deep h = spelled_is_read (value_view list) tokens rest depth h deep
read_if_found (Ok None) tokens rest depth deep h = tt
read_if_found (Err error) tokens rest depth deep h = tt

shorter_if_found : {E : Type 0} (found : Result (Option Value) E) (tokens rest : List Token) → Found found tokens rest → IfOk found (λ found. IfSome found (λ list. length rest ≤ length tokens))
shorter_if_found (Ok (Some list)) tokens rest h = fewer_than_spelled h.places tokens rest h.spelled
shorter_if_found (Ok None) tokens rest h = tt
shorter_if_found (Err error) tokens rest h = tt

pub returns-in-Numbers-clause-reads : goal.returns-in-Numbers-clause-reads
returns-in-Numbers-clause-reads c = read_if_found c.numbers.result (remaining c.args.tokens.now) (remaining c.numbers.new.tokens) c.args.depth (omega arith) c.numbers.ensures.spelled

pub returns-in-Numbers-clause-shorter : goal.returns-in-Numbers-clause-shorter
returns-in-Numbers-clause-shorter c = shorter_if_found c.numbers.result (remaining c.args.tokens.now) (remaining c.numbers.new.tokens) c.numbers.ensures.spelled

pub returns-in-Rows-clause-reads : goal.returns-in-Rows-clause-reads
returns-in-Rows-clause-reads c = read_if_found c.rows.result (remaining c.args.tokens.now) (remaining c.rows.new.tokens) c.args.depth (omega arith) c.rows.ensures.spelled

pub returns-in-Rows-clause-shorter : goal.returns-in-Rows-clause-shorter
returns-in-Rows-clause-shorter c = shorter_if_found c.rows.result (remaining c.args.tokens.now) (remaining c.rows.new.tokens) c.rows.ensures.spelled

pub returns-in-Entries-clause-reads : goal.returns-in-Entries-clause-reads
returns-in-Entries-clause-reads c = read_if_found c.entries.result (remaining c.args.tokens.now) (remaining c.entries.new.tokens) c.args.depth (omega arith) c.entries.ensures.spelled

pub returns-in-Entries-clause-shorter : goal.returns-in-Entries-clause-shorter
returns-in-Entries-clause-shorter c = shorter_if_found c.entries.result (remaining c.args.tokens.now) (remaining c.entries.new.tokens) c.entries.ensures.spelled
