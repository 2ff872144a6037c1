-- Every row of the table of worked cases holds, by computing the definitions: one claim, in which a wrong row fails.
-- Assumes nothing.
use mathlib.Core.Path.{refl}
use Rattle.octets.specs.Refusals.{unless, first_of}
use Rattle.octets.specs.Strings.{over}
use Rattle.octets.specs.Numbers.{le, le_at}
use Rattle.octets.specs.Writing.{written}
use Rattle.senders.specs.Senders.{counted}
use Rattle.journal.specs.Format.{body_length, record_at, record_bytes, kinds_from, records_from, some_unknown, total_length}
use Rattle.journal.specs.Recovery.{noted, ceiling_after, key_number_after, senders_after, applied_all, state_of, recover_refusal, anew, recover_answer, recovered_list}
use Rattle.journal.specs.Writing.{record_of_kind, write_refusal, write_record, some_ceiling, next_refusal, next_counter}
use Rattle.journal.specs.Shrinking.{before, address_before, inserted, sorted, key_number_records, ceiling_records, sender_records, shrunk, shrink_refusal, shrink}
use Rattle.journal.specs.Life.{after, after_all}
use Rattle.journal.specs.WorkedCases.{AllWorked, AllHold, many, listed, recoveries, writings, counters, shrinkings}

recoveries_hold : AllHold recoveries
unfolding unless first_of over le le_at written counted body_length record_at record_bytes kinds_from records_from some_unknown total_length noted
    ceiling_after key_number_after senders_after applied_all state_of recover_refusal anew recover_answer recovered_list record_of_kind write_refusal
    write_record some_ceiling next_refusal next_counter after after_all many listed recoveries
recoveries_hold = (
  (refl, refl),
  (
    (refl, refl),
    (
      (refl, refl),
      (
        (refl, refl),
        (
          (refl, refl),
          (
            (refl, refl),
            (
              (refl, refl),
              (
                (refl, refl),
                (
                  (refl, refl),
                  (
                    (refl, refl),
                    (
                      (refl, refl),
                      (
                        (refl, refl),
                        (
                          (refl, refl),
                          (
                            (refl, refl),
                            (
                              (refl, refl),
                              (
                                (refl, refl),
                                (
                                  (refl, refl),
                                  (
                                    (refl, refl),
                                    (
                                      (refl, refl),
                                      (
                                        (refl, refl),
                                        (
                                          (refl, refl),
                                          (
                                            (refl, refl),
                                            (
                                              (refl, refl),
                                              (
                                                (refl, refl),
                                                (
                                                  (refl, refl),
                                                  (
                                                    (refl, refl),
                                                    (
                                                      (refl, refl),
                                                      (
                                                        (refl, refl),
                                                        ((refl, refl), ((refl, refl), ((refl, refl), ((refl, refl), ((refl, refl), ((refl, refl), tt)))))),
                                                      ),
                                                    ),
                                                  ),
                                                ),
                                              ),
                                            ),
                                          ),
                                        ),
                                      ),
                                    ),
                                  ),
                                ),
                              ),
                            ),
                          ),
                        ),
                      ),
                    ),
                  ),
                ),
              ),
            ),
          ),
        ),
      ),
    ),
  ),
)

writings_hold : AllHold writings
unfolding unless first_of over le le_at written counted body_length record_at record_bytes kinds_from records_from some_unknown total_length noted
    ceiling_after key_number_after senders_after applied_all state_of recover_refusal anew recover_answer recovered_list record_of_kind write_refusal
    write_record some_ceiling next_refusal next_counter after after_all many listed writings
writings_hold =
    (refl, (refl, (refl, (refl, (refl, (refl, (refl, (refl, (refl, (refl, (refl, tt)))))))))))

counters_hold : AllHold counters
unfolding unless first_of over le le_at written counted body_length record_at record_bytes kinds_from records_from some_unknown total_length noted
    ceiling_after key_number_after senders_after applied_all state_of recover_refusal anew recover_answer recovered_list record_of_kind write_refusal
    write_record some_ceiling next_refusal next_counter after after_all many listed counters
counters_hold =
    (refl, (refl, (refl, (refl, (refl, (refl, (refl, (refl, (refl, (refl, (refl, (refl, (refl, tt)))))))))))))

shrinkings_hold : AllHold shrinkings
unfolding unless first_of over le le_at written counted body_length record_at record_bytes kinds_from records_from some_unknown total_length noted
    ceiling_after key_number_after senders_after applied_all state_of recover_refusal anew recover_answer recovered_list record_of_kind write_refusal
    write_record some_ceiling next_refusal next_counter before address_before inserted sorted key_number_records ceiling_records sender_records shrunk
    shrink_refusal shrink after after_all many listed shrinkings
shrinkings_hold =
    (refl, (refl, (refl, (refl, (refl, (refl, (refl, (refl, (refl, (refl, (refl, (refl, (refl, (refl, (refl, tt)))))))))))))))

pub worked_hold : AllWorked
worked_hold = (recoveries_hold, (writings_hold, (counters_hold, shrinkings_hold)))
