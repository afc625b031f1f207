-- Computed rows of the tables: steps of laps, what is in vain, patience and rests.
use Rattle.std.proofs.Common.{◌≡◌, true, false, refl}
use Rattle.upkeep.specs.declared.laps.Choice.TheVariants.{Next, Short, Tried, Wait}
use Rattle.upkeep.specs.Laps.{begins_by, is_behind_by, is_gain, patience_next, steps_by}
use Rattle.upkeep.specs.Rounds.{rest_by}

-- a whole lap has four steps for each place that is used, a short one at most 64
whole_lap : steps_by Next 64 ≡ 256
whole_lap = refl

short_lap : steps_by Short 64 ≡ 64
short_lap = refl

short_lap_over_few_places : steps_by Short 10 ≡ 40
short_lap_over_few_places = refl

-- of 64 places that were used, two have to come back, and a third one is a gain
two_of_sixty_four_are_in_vain : is_gain 64 62 ≡ false
two_of_sixty_four_are_in_vain = refl

three_of_sixty_four_are_a_gain : is_gain 64 61 ≡ true
three_of_sixty_four_are_a_gain = refl

more_than_before_is_in_vain : is_gain 40 45 ≡ false
more_than_before_is_in_vain = refl

-- patience doubles up to 1,000 looks
patience_doubles : patience_next Tried 10 ≡ 20
patience_doubles = refl

patience_ends_at_a_thousand : patience_next Tried 640 ≡ 1000
patience_ends_at_a_thousand = refl

a_short_lap_keeps_patience : patience_next Short 20 ≡ 20
a_short_lap_keeps_patience = refl

-- who writes waits where a lap has steps left and an eighth of the places or less are left
behind_at_56_of_64 : is_behind_by 1 56 64 ≡ true
behind_at_56_of_64 = refl

level_at_55_of_64 : is_behind_by 1 55 64 ≡ false
level_at_55_of_64 = refl

level_without_a_lap : is_behind_by 0 64 64 ≡ false
level_without_a_lap = refl

no_lap : begins_by Wait 64 ≡ false
no_lap = refl

rest_while_somebody_is_served : rest_by false ≡ 10
rest_while_somebody_is_served = refl

rest_while_nobody_is_served : rest_by true ≡ 50
rest_while_nobody_is_served = refl
