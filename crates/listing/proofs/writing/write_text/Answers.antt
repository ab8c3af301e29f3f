use Rattle.std.proofs.Common.{refl}
use Rattle.listing.proofs.Pieces.{wrote-text}
use Rattle.listing.proofs.writing.write_text.Goals as goal

pub returns : goal.returns
returns c = wrote-text c.args.out.now c.args.text.now c.copy_from_slice.new.self c.args.place _ c.copy_from_slice.ensures.after refl c.requires
