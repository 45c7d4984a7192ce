use Rattle.image_order.proofs.PlacingLemmas.{order_places, order_stands}
use Rattle.image_order.proofs.laws.images_stand_in_order.Goals as goal

pub returns-clause-stands : goal.returns-clause-stands
returns-clause-stands c = order_stands

pub returns-clause-places : goal.returns-clause-places
returns-clause-places c = order_places
