-- A formula that means the shape and the order together says that a canonical start is shown.
use Rattle.std.proofs.Common.{◌≡◌, true, ◌&&◌, sym, ◌∙◌}
use Rattle.std.proofs.lemmas.Bool.{and_parts, and_from}
use Rattle.taco_unit.specs.Well.{IsWell}
use Rattle.heap_core.specs.declared.start.Start.{Start}
use Rattle.heap_core.specs.Posed.{Posed, InRange}
use Rattle.rel_core.specs.declared.formula.Formula.{Formula}
use Rattle.rel_core.specs.declared.indices.Indices.{Indices}
use Rattle.rel_core.specs.Reading.{Reading}
use Rattle.rel_core.specs.Meaning.{holds}
use Rattle.rel_core.specs.Uses.{Kinds, GivesStart, IsOf}
use Rattle.rel_core.specs.Shown.{start_of}
use Rattle.canon_rel.specs.Canonical.{HasKinds, ShowsCanonical, SaysCanonical}
use Rattle.canon_rel.specs.Order.{is_in_order}
use Rattle.canon_rel.specs.Shape.{has_shape}
use Rattle.canon_rel.proofs.ByLinks.{canonical_by_links}
use Rattle.canon_rel.proofs.PlacesShown.{given_in_order, in_order_from}
use Rattle.canon_rel.proofs.ShapeStart.{start_told}
use Rattle.canon_rel.proofs.ShapeBack.{shape_from}

module _ (p : Posed) (m : Reading) (at : Indices) (well : IsWell p.unit) (range : InRange p) (kinds : Kinds) (gives : GivesStart p kinds) (of : IsOf p kinds m) where
  canonical_shown : has_shape p at m ≡ true → is_in_order p at m ≡ true → ShowsCanonical p m at (start_of p m at)
  canonical_shown shape order =
      let start = start_told p m at well range kinds gives of shape in
      record {
        shown = start.shown;
        is = (canonical_by_links p (start_of p m at) well start.kinded).1 (given_in_order p m at (start_of p m at) of.objects start.shown start.kinded order);
      }

  kinds_of : (s : Start) → ShowsCanonical p m at s → HasKinds s p
  kinds_of s shows = record {
    few_objects = shows.is.fits.few_objects;
    objects_whole = shows.is.fits.objects_whole;
    receiver = shows.is.fits.receiver;
    arguments = shows.is.fits.arguments;
  }

  shape_shown : (s : Start) → ShowsCanonical p m at s → has_shape p at m ≡ true
  shape_shown s shows = shape_from p m at s well of.objects shows.shown (kinds_of s shows)

  order_shown : (s : Start) → ShowsCanonical p m at s → is_in_order p at m ≡ true
  order_shown s shows = in_order_from p m at s of.objects shows.shown (kinds_of s shows) ((canonical_by_links p s well (kinds_of s shows)).0 shows.is)

  pub says_canonical : (f : Formula) → holds f m ≡ (has_shape p at m && is_in_order p at m) → SaysCanonical p at f m
  says_canonical f means = record {
    shows = λ holds. let parts = and_parts (has_shape p at m) (is_in_order p at m) (sym means ∙ holds) in canonical_shown parts.0 parts.1;
    says = λ s shows. means ∙ and_from (has_shape p at m) (is_in_order p at m) (shape_shown s shows) (order_shown s shows);
  }
