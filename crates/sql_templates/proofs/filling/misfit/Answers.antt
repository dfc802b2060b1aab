use Rattle.std.proofs.Common.{◌≡◌, ◌+◌, ◌<◌, length, rules, subst, ◌∙◌, sym, ap, true}
use Rattle.sql_templates.specs.Templates.{fits}
use Rattle.sql_templates.specs.Writable.{IsWritable}
use Rattle.sql_templates.proofs.Misfits.{misfit_next}
use Rattle.sql_templates.proofs.WritableValues.{writable_more}
use Rattle.sql_templates.proofs.filling.misfit.Goals as goal

pub places-preserved : goal.places-preserved
places-preserved c =
    let within : c.places.at < length c.args.values.now = search rules in
    let here : c.places.at < length c.args.kinds.now = search rules in
    let takes : c.fits.result ≡ true = search rules in (
      c.places.invariant.0 ∙ misfit_next (c.places.at + 1) c.args.kinds.now c.args.values.now c.places.at _ _ here within (ap (fits _) (sym c.index-values-at.is) ∙ sym c.fits.ensures.takes ∙ takes),
      writable_more c.args.values.now c.places.at _ within c.places.invariant.1 (subst IsWritable c.index-values-at.is c.fits.ensures.writable),
    )
