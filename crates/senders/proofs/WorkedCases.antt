-- Every row of the table of worked cases holds, by computing the definitions: one claim, in which a wrong row fails.
-- Assumes nothing.
use mathlib.Core.Path.{refl}
use Rattle.octets.specs.Refusals.{unless, first_of}
use Rattle.senders.specs.Records.{kept}
use Rattle.senders.specs.Senders.{some_of, first_replaced, stored_in, forgotten_in, ask_refusal, asked_by, inbound_network_key, note_refusal, note, forget}
use Rattle.senders.specs.WorkedCases.{AllHold, worked}

pub worked_hold : AllHold worked
unfolding unless first_of kept some_of first_replaced stored_in forgotten_in ask_refusal asked_by inbound_network_key
    note_refusal note forget worked
worked_hold = (
  refl,
  (
    refl,
    (
      refl,
      (
        refl,
        (
          refl,
          (
            refl,
            (
              refl,
              (
                refl,
                (
                  refl,
                  (
                    refl,
                    (
                      refl,
                      (
                        refl,
                        (
                          refl,
                          (
                            refl,
                            (
                              refl,
                              (
                                refl,
                                (
                                  refl,
                                  (
                                    refl,
                                    (refl, (refl, (refl, (refl, (refl, (refl, (refl, (refl, (refl, (refl, (refl, (refl, (refl, (refl, (refl, tt))))))))))))))),
                                  ),
                                ),
                              ),
                            ),
                          ),
                        ),
                      ),
                    ),
                  ),
                ),
              ),
            ),
          ),
        ),
      ),
    ),
  ),
)
