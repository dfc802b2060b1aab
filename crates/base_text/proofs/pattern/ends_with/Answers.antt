use Rattle.std.proofs.Common.{◌-◌, length, arith, sym, ◌∙◌, ap}
use Rattle.base_text.specs.Parts.{fits}
use Rattle.base_text.proofs.Likes.{last_at_end, rest_all}
use Rattle.base_text.proofs.pattern.ends_with.Goals as goal

pub returns-then-part-text : goal.returns-then-part-text
returns-then-part-text c =
    c.fits.ensures.fits
    ∙ ap (fits c.args.part.now) (rest_all (length c.args.text.now - length c.args.part.now) c.args.text.now)
    ∙ sym (last_at_end c.args.part.now c.args.text.now c.requires (omega arith))
