use Rattle.kb_record.proofs.Ends.{ends_itself}
use Rattle.kb_record.proofs.cursor.Cursor.new.Goals as goal

pub next_in-requires : goal.next_in-requires
next_in-requires c = ends_itself c.args.text.now
