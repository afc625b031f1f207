use Rattle.hybrid.proofs.stripe.Stripe.place.Goals as goal

pub returns-in-None : goal.returns-in-None
returns-in-None g c = c.in-None.ensures.none c.args.size
