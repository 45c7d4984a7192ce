use Rattle.std.proofs.Common.{◌∙◌, subst}
use Rattle.std.proofs.lemmas.Slice.Zip.{AllZip-long}
use Rattle.conf_keys.specs.declared.conf.Kind.{Kind}
use Rattle.image_specs.specs.IsSpec.{AreSources, IsSourceFor}
use Rattle.placement_rules.proofs.listing.terms_of.Goals as goal

pub all_terms-requires-clause-lens : goal.all_terms-requires-clause-lens
all_terms-requires-clause-lens c =
    c.requires.lens
    ∙ AllZip-long (λ part source. IsSourceFor part.image source) c.args.spec.now.keys.parts c.args.spec.now.sources
    (subst (λ (kind : Kind). AreSources kind c.args.spec.now.keys.parts c.args.spec.now.sources) c.in-Hd.is c.requires.spec.sources)
