use Rattle.app_jobs.proofs.senders.run_receiver.Goals as goal

pub run_open-received-requires-clause-opened : goal.run_open-received-requires-clause-opened
run_open-received-requires-clause-opened g c κs within = λ i d less. (c.in_ok-publisher.ensures.readers i d less).0
