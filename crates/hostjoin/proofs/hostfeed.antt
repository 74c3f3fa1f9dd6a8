mod FedLaws
