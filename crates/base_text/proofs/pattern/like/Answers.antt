use Rattle.base_text.proofs.Likes.{front_fits, front_fails}
use Rattle.base_text.proofs.pattern.like.Goals as goal

pub returns-then-fits : goal.returns-then-fits
returns-then-fits c =
    front_fits c.args.pattern.now c.args.text.now c.bytes-pattern.result.now c.bytes-text.result.now c.in-Some.front c.fits.result c.like_some_rest.result
    c.bytes-pattern.ensures.text c.bytes-text.ensures.text c.in-Some.ensures.place c.fits.ensures.fits c.if-fits.true c.like_some_rest.ensures

pub returns-else-fits : goal.returns-else-fits
returns-else-fits c =
    front_fails c.args.pattern.now c.args.text.now c.bytes-pattern.result.now c.bytes-text.result.now c.in-Some.front c.fits.result
    c.bytes-pattern.ensures.text c.bytes-text.ensures.text c.in-Some.ensures.place c.fits.ensures.fits c.if-fits.false
