-- Texts of points, computed: of the first and the last date, across 1970, of leap days, and in each unit.
use Rattle.std.proofs.Common.{◌≡◌, refl, pos, neg_ℤ, codes}
use Rattle.sy_base.specs.declared.time.TimeUnit.TheVariants.{Minute, Hour, Day}
use Rattle.sy_base.specs.Dates.{date_text, day_in}

first_of_march : date_text Day (pos 19783) ≡ codes "2024-03-01"
unfolding date_text day_in
first_of_march = refl

leap_day : date_text Day (pos 11016) ≡ codes "2000-02-29"
unfolding date_text day_in
leap_day = refl

last_of_1969 : date_text Day (neg_ℤ (pos 1)) ≡ codes "1969-12-31"
unfolding date_text day_in
last_of_1969 = refl

first_of_1970 : date_text Minute (pos 0) ≡ codes "1970-01-01T00:00"
unfolding date_text day_in
first_of_1970 = refl

first_date : date_text Day (neg_ℤ (pos 25567)) ≡ codes "1900-01-01"
unfolding date_text day_in
first_date = refl

last_hour_of_1969 : date_text Hour (neg_ℤ (pos 1)) ≡ codes "1969-12-31T23"
unfolding date_text day_in
last_hour_of_1969 = refl

hour : date_text Hour (pos 474801) ≡ codes "2024-03-01T09"
unfolding date_text day_in
hour = refl

minute : date_text Minute (pos 28488090) ≡ codes "2024-03-01T09:30"
unfolding date_text day_in
minute = refl

last_minute : date_text Minute (pos 541727999) ≡ codes "2999-12-31T23:59"
unfolding date_text day_in
last_minute = refl
