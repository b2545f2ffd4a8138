use Rattle.std.proofs.Common.{◌≡◌, ◌-◌, take, drop, length, arith, ◌∙◌, sym, length-take}
use Rattle.kb_io.proofs.Reading.{front-moved}
use Rattle.kb_io.proofs.memory.whole_source.WholeSource.take.Goals as goal

pub returns-clause-moved : goal.returns-clause-moved
returns-clause-moved c =
    let value = c.deref.ensures.value in
    let copied : c.copy_from_slice.new.self ≡ take c.min-count.result (take (length c.self.inside.bytes.items - c.self.inside.taken) (drop c.self.inside.taken c.self.inside.bytes.items)) =
    rw (← value) c.copy_from_slice.ensures.after in
    let size : length c.copy_from_slice.new.self ≡ c.min-count.result =
    omega (arith, c.copy_from_slice.ensures.len, length-take c.min-count.result c.args.buf.now) in
    sym c.self.view_is ∙ front-moved c.self.inside.bytes.items c.copy_from_slice.new.self (drop c.min-count.result c.args.buf.now) c.self.inside.taken c.min-count.result copied size
